-- What a function that prints a text answers and leaves: the whole text, or nothing where there is no room; and the text of a refusal.
-- Assumes nothing.
use Prim.Native.Nat.{ℕ, ◌≤◌, ◌<◌}
use mathlib.Core.Path.{◌≡◌, ◌∙◌}
use mathlib.Core.List.{List, ◌++◌, append_assoc}
use lib.ListN.{length, set, length-append}
use lib.Seq.{sets, sets-eq}
use native.Mathlib.Omega.{arith}
use native.Mathlib.Nat.{zero-add}
use borrow.Author.Tests.{le-leb, lt-leb}
use Rattle.counting.proofs.Parts.{sets_append, sets_length}
use Rattle.text.specs.Text.{end_byte}
use Rattle.text.specs.Hex.{hex, end_of_line}
use Rattle.text.proofs.Hex.{length_hex}
use Rattle.print_lines.specs.Lines.{refusal_text}
use Rattle.print_lines.specs.Put.{bytes_in, buffer_after, Put}

module _ (text before : List ℕ) where
  pub no_room : length before < length text → Put text before before 0
  unfolding bytes_in buffer_after
  no_room h = record { answer = rw (lt-leb (length text) (length before) h); buffer = rw (lt-leb (length text) (length before) h) }

  pub room : (after : List ℕ) (bytes : ℕ)
      → length text ≤ length before → bytes ≡ length text → after ≡ sets before 0 text → Put text before after bytes
  unfolding bytes_in buffer_after
  room after bytes h b e =
      record {
        answer = rw (le-leb (length text) (length before) h) b;
        buffer =
            rw (le-leb (length text) (length before) h)
            (e ∙ sets-eq text before 0 (omega (arith, h)) ∙ rw zero-add);
      }

-- FF, the number and the end of the line
pub put_refusal :
    (l x y : List ℕ) (number : ℕ) → x ≡ sets l 0 (hex 2 255) → y ≡ sets x 2 (hex 2 number) → set y 4 end_byte ≡ sets l 0 (refusal_text number)
unfolding refusal_text
put_refusal l x y number e f =
    let a = hex 2 255 in
    let b = hex 2 number in
    let four : length (a ++ b) ≡ 4 = omega (arith, length-append a b, length_hex 2 255, length_hex 2 number) in
    rw (f, e, sets_append l 0 a b 2 (rw (length_hex 2 255)), sets_append l 0 (a ++ b) end_of_line 4 (rw four), append_assoc a b end_of_line)

pub refusal_long : (l x y : List ℕ) (mark number : ℕ) → x ≡ sets l 0 (hex 2 mark) → y ≡ sets x 2 (hex 2 number) → length y ≡ length l
refusal_long l x y mark number e f = sets_length x y 2 (hex 2 number) f ∙ sets_length l x 0 (hex 2 mark) e

pub refusal_length : (number : ℕ) → length (refusal_text number) ≡ 5
unfolding refusal_text
refusal_length number =
    let b = hex 2 number ++ end_of_line in
    omega (arith, length-append (hex 2 255) b, length-append (hex 2 number) end_of_line, length_hex 2 255, length_hex 2 number)
