-- A frame's line put into a list: the stores one after another are one run of stores (`sets`).
-- Assumes nothing.
use native.Mathlib.Numerals.{add-one}
use Prim.Native.Nat.{ℕ, suc, ◌+◌, ◌/◌, ◌%◌, ◌^◌, ◌<◌}
use mathlib.Core.Path.{◌≡◌, ◌∙◌}
use mathlib.Core.List.{List, ◌++◌, append_assoc}
use native.Mathlib.Omega.{arith}
use lib.ListN.{length, set, length-append}
use lib.Seq.{sets}
use Rattle.text.proofs.Hex.{small_digit, length_hex}
use Rattle.text.proofs.Puts.{hex_first}
use Rattle.counting.proofs.Parts.{sets_append, sets_length}
use Rattle.text.specs.Hex.{hex, end_of_line}
use Rattle.text.specs.Text.{end_byte}
use Rattle.print_lines.specs.Lines.{frame_line}

-- the digits of a position that has at most 3
pub put_position :
    (l y : List ℕ) (at : ℕ) {p q : ℕ} → q ≡ p → p < 16 ^ 3 → y ≡ sets (set l at 48) (at + 1) (hex 3 q) → y ≡ sets l at (hex 4 p)
put_position l y at {p} e h f =
    let none : p / 16 ^ 3 % 16 ≡ 0 = omega arith in
    let place : at + 1 ≡ suc at = add-one at in
    rw (f, e, hex_first 3 p, none, small_digit 0 (omega arith), place)

module _ (l x y z : List ℕ) (at position card cycle : ℕ) (e : x ≡ sets l at (hex 4 position)) (f : y ≡ sets x (at + 4) (hex 2 card)) where
  card_length : length y ≡ length l
  card_length = sets_length x y (at + 4) (hex 2 card) f ∙ sets_length l x at (hex 4 position) e

  module _ (g : z ≡ sets y (at + 6) (hex 4 cycle)) where
    pub line_length : length z ≡ length l
    line_length = sets_length y z (at + 6) (hex 4 cycle) g ∙ card_length

    pub put_line : set z (at + 10) end_byte ≡ sets l at (frame_line position card cycle)
    put_line =
        let a = hex 4 position in
        let b = hex 2 card in
        let c = hex 4 cycle in
        let six : length (a ++ b) ≡ 6 = omega (arith, length-append a b, length_hex 4 position, length_hex 2 card) in
        let ten : length ((a ++ b) ++ c) ≡ 10 = omega (arith, six, length-append (a ++ b) c, length_hex 4 cycle) in
        rw (
          g,
          f,
          e,
          sets_append l at a b (at + 4) (rw (length_hex 4 position)),
          sets_append l at (a ++ b) c (at + 6) (rw six),
          sets_append l at ((a ++ b) ++ c) end_of_line (at + 10) (rw ten),
          append_assoc (a ++ b) c end_of_line,
          append_assoc a b (c ++ end_of_line),
        )

-- its bytes
pub frame_length : (position card cycle : ℕ) → length (frame_line position card cycle) ≡ 11
frame_length position card cycle =
    let b = hex 2 card in
    let c = hex 4 cycle in
    omega (
      arith,
      length-append (hex 4 position) (b ++ (c ++ end_of_line)),
      length-append b (c ++ end_of_line),
      length-append c end_of_line,
      length_hex 4 position,
      length_hex 2 card,
      length_hex 4 cycle,
    )
