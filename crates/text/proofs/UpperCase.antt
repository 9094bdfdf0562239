-- A text and its upper-case text have the same numbers and the same lines.
-- Assumes nothing.
use Prim.Native.Nat.{ℕ, zero, suc, ◌+◌}
use mathlib.Core.Path.{◌≡◌, refl, ap, ◌∙◌}
use mathlib.Core.List.{List}
use lib.Dec.{eqb}
use lib.ListN.{length, get_or, length-map, get_or-map}
use Rattle.text.specs.Text.{end_byte, digit, digits, number, is_line}
use Rattle.text.specs.UpperCase.{upper, upper_case}
use Rattle.text.proofs.Bytes.{digit_upper, end_upper}

module _ (s : List ℕ) where
  pub byte_upper : (i : ℕ) → get_or (upper_case s) i 0 ≡ upper (get_or s i 0)
  unfolding upper
  byte_upper i = get_or-map upper s i 0

  -- the end byte stays in upper case
  pub end_stays : (i : ℕ) → get_or s i 0 ≡ end_byte → get_or (upper_case s) i 0 ≡ end_byte
  unfolding upper
  end_stays i e = byte_upper i ∙ rw e

  pub length_upper : length (upper_case s) ≡ length s
  length_upper = length-map s upper

  value_upper : (i : ℕ) → digit (get_or (upper_case s) i 0) ≡ digit (get_or s i 0)
  value_upper i = ap digit (byte_upper i) ∙ digit_upper (get_or s i 0)

  ends_upper : (i : ℕ) → eqb (get_or (upper_case s) i 0) end_byte ≡ eqb (get_or s i 0) end_byte
  ends_upper i = ap (λ (b : ℕ). eqb b end_byte) (byte_upper i) ∙ end_upper (get_or s i 0)

  module _ (at : ℕ) where
    digits_upper : (n : ℕ) → digits (upper_case s) at n ≡ digits s at n
    unfolding digits
    digits_upper zero = refl
    digits_upper (suc n) = rw (digits_upper n, value_upper (at + n))

    pub number_upper : (n : ℕ) → number (upper_case s) at n ≡ number s at n
    unfolding number
    number_upper zero = refl
    number_upper (suc n) = rw (number_upper n, value_upper (at + n))

    pub line_upper : (n : ℕ) → is_line (upper_case s) at n ≡ is_line s at n
    unfolding is_line
    line_upper n = rw (length_upper, digits_upper n, ends_upper (at + n))
