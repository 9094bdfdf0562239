-- A line, as a test and as what it says.
-- Assumes nothing.
use Prim.Native.Nat.{ℕ, ◌+◌}
use mathlib.Core.Path.{◌≡◌, ◌∙◌}
use mathlib.Core.Bool.{true, false}
use mathlib.Core.List.{List}
use mathlib.Core.Logic.{◌⊎◌, inl, inr}
use native.Mathlib.Omega.{arith}
use borrow.Author.Tests.{eq-eqb}
use Rattle.counting.proofs.Bits.{by_cases}
use Rattle.text.specs.Text.{is_line, Line}
use Rattle.text.proofs.Digits.{line_long, digits_of_line, line_end, digit_at, all_digits, is_line_is}

module _ (s : List ℕ) (at n : ℕ) where
  pub line_true : Line s at n → is_line s at n ≡ true
  line_true l = is_line_is s at n l.inside (all_digits s at n l.each_digit) ∙ eq-eqb _ _ l.ends

  pub true_line : is_line s at n ≡ true → Line s at n
  true_line e =
      record {
        inside = line_long s at n e;
        each_digit = λ i h. digit_at s at n i (digits_of_line s at n e) h;
        ends = line_end s at n e;
      }

  -- the rest of a line, after its first digits
  pub line_later : (m : ℕ) → Line s at (m + n) → Line s (at + m) n
  line_later m l =
      record {
        inside = omega (arith, l.inside);
        each_digit = λ i h. let q : at + (m + i) ≡ at + m + i = omega arith in rw q at (l.each_digit (m + i) (omega arith));
        ends = let q : at + (m + n) ≡ at + m + n = omega arith in rw q at l.ends;
      }

  pub line_false : (Line s at n → ⊥) → is_line s at n ≡ false
  line_false h = by_cases (is_line s at n) (λ e. absurd (h (true_line e))) (λ e. e)

  pub line_or_not : Line s at n ⊎ (Line s at n → ⊥)
  line_or_not =
      by_cases (is_line s at n)
      (λ e. inl (true_line e))
      (λ e. inr (λ l. let q = line_true l in let z : ◌≡◌ {A = ℕ} 0 1 = cc in omega arith))
