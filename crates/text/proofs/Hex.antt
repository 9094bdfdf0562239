-- Digits, numbers and lines that are read and written again are the text that they were, in upper case.
-- Assumes nothing.
use Prim.Native.Nat.{ℕ, zero, suc, ◌+◌, ◌*◌, ◌/◌, ◌%◌, ◌≤◌, ◌<◌}
use mathlib.Core.Path.{◌≡◌, refl, ◌∙◌}
use mathlib.Core.Bool.{true}
use mathlib.Core.List.{List, [], ◌∷◌, ◌++◌}
use native.Mathlib.Omega.{arith}
use native.Mathlib.Numerals.{add-one}
use lib.ListN.{length, get_or, take, drop, length-drop, length-append}
use lib.Seq.{take-suc, get_or-drop}
use borrow.Author.Tests.{lt-ltb, le-ltb}
use Rattle.text.specs.Hex.{digit_of, hex, end_of_line}
use Rattle.text.specs.Text.{digit, digits, number, Line}
use Rattle.text.specs.UpperCase.{upper, upper_case}
use Rattle.text.proofs.Bytes.{Kind, is_decimal, is_letter, is_small, is_none, kind}
use Rattle.text.proofs.Digits.{last_digit, fewer_digits, digits_of_line}
use Rattle.text.proofs.Lines.{line_true}
use Rattle.text.proofs.UpperCase.{byte_upper, end_stays, length_upper}

pub small_digit : (v : ℕ) → v < 10 → digit_of v ≡ 48 + v
unfolding digit_of
small_digit v h = rw (lt-ltb v 10 h)

pub large_digit : (v : ℕ) → 10 ≤ v → digit_of v ≡ 55 + v
unfolding digit_of
large_digit v h = rw (le-ltb v 10 h)

-- the digit of a value is the byte that has it, in upper case
back_of : (b : ℕ) → Kind b → digit b < 16 → digit_of (digit b) ≡ upper b
back_of b (is_decimal l h d u) p = rw u (omega (arith, d, l, small_digit (digit b) (omega (arith, d, h))))
back_of b (is_letter l h d u) p = rw u (omega (arith, d, l, large_digit (digit b) (omega (arith, d, l))))
back_of b (is_small l h d u) p = rw u (omega (arith, d, l, large_digit (digit b) (omega (arith, d, l))))
back_of b (is_none d u) p = absurd (omega (arith, d, p))

pub digit_back : (b : ℕ) → digit b < 16 → digit_of (digit b) ≡ upper b
digit_back b = back_of b (kind b)

pub length_hex : (n x : ℕ) → length (hex n x) ≡ n
unfolding hex
length_hex zero x = refl
length_hex (suc n) x = omega (arith, length-append (hex n (x / 16)) (digit_of (x % 16) ∷ []), length_hex n (x / 16))

shift : (a d : ℕ) → d < 16 → ((a * 16 + d) / 16 ≡ a) × ((a * 16 + d) % 16 ≡ d)
shift a d h = (omega arith, omega arith)

pub hex_step : (n a d : ℕ) → d < 16 → hex (suc n) (a * 16 + d) ≡ hex n a ++ (digit_of d ∷ [])
unfolding hex
hex_step n a d h = rw ((shift a d h).0, (shift a d h).1)

-- digits that are read and written again are in upper case
pub number_back : (s : List ℕ) (at n : ℕ) → digits s at n ≡ true → at + n ≤ length s → hex n (number s at n) ≡ take n (drop at (upper_case s))
unfolding number hex
number_back s at zero e h = refl
number_back s at (suc n) e h =
    let l : n < length (drop at (upper_case s)) = rw (length-drop, length_upper s) (omega arith) in
    hex_step n (number s at n) (digit (get_or s (at + n) 0)) (last_digit s at n e)
    ∙ rw (
      number_back s at n (fewer_digits s at n e) (omega arith),
      digit_back (get_or s (at + n) 0) (last_digit s at n e),
      take-suc (drop at (upper_case s)) n 0 l,
      get_or-drop,
      byte_upper s (at + n),
    )

-- a line that is read and written again
pub line_back : (s : List ℕ) (at n : ℕ) → Line s at n → hex n (number s at n) ++ end_of_line ≡ take (n + 1) (drop at (upper_case s))
line_back s at n l =
    let d : digits s at n ≡ true = digits_of_line s at n (line_true s at n l) in
    let k : n < length (drop at (upper_case s)) = rw (length-drop, length_upper s) (omega (arith, l.inside)) in
    rw (
      number_back s at n d (omega (arith, l.inside)),
      add-one,
      take-suc (drop at (upper_case s)) n 0 k,
      get_or-drop,
      end_stays s (at + n) l.ends,
    )
