-- Laws of numbers of bytes that may be no digits: what one of them tells, and how large it can be.
-- Assumes nothing.
use Prim.Native.Nat.{ℕ, zero, suc, ◌+◌, ◌*◌, ◌^◌, ◌≤◌, ◌<◌}
use mathlib.Core.Path.{◌≡◌, refl, sym, ◌∙◌}
use mathlib.Core.Bool.{true, false, true≢false}
use mathlib.Core.List.{List}
use native.Mathlib.Omega.{arith}
use native.Mathlib.Numerals.{add-one}
use native.Mathlib.Decide.{dec_lt}
use native.Mathlib.Nat.{pow-suc, pow-le-pow_right}
use lib.ListN.{get_or}
use borrow.Author.Tests.{lt-ltb, le-ltb}
use Rattle.counting.proofs.Bits.{by_cases}
use Rattle.counting.proofs.Lists.{get_or_tabulate}
use Rattle.text.specs.Text.{digit, digits, number}
use Rattle.text.specs.Wide.{no_number, wide, wide_values, wide_number}
use Rattle.text.proofs.Digits.{digits_step, fewer_digits, last_digit, number_lt}

pub wide_digit : (v : ℕ) → v < 16 → v ≡ wide v
unfolding wide
wide_digit v l = rw (lt-ltb v 16 l)

pub wide_none : (v : ℕ) → 16 ≤ v → no_number ≡ wide v
unfolding wide
wide_none v l = rw (le-ltb v 16 l)

pub wide_most : (v : ℕ) → wide v ≤ no_number
wide_most v =
    elim (dec_lt v 16) [ yes l ↦ omega (arith, wide_digit v l) | no l ↦ omega (arith, wide_none v (omega arith)) ]

-- the table, read at a byte
pub wide_of : (l : List ℕ) → l ≡ wide_values → (b : ℕ) → b < 256 → get_or l b 0 ≡ wide (digit b)
unfolding wide_values
wide_of l e b h = rw e (get_or_tabulate 256 (λ b. wide (digit b)) b 0 h)

module _ (s : List ℕ) (at : ℕ) where
  pub wide_on : (n : ℕ) → wide_number s at n * 16 + wide (digit (get_or s (at + n) 0)) ≡ wide_number s at (n + 1)
  unfolding wide_number
  wide_on n = rw (add-one n)

  -- where all are digits it is their number
  pub wide_is : (n : ℕ) → digits s at n ≡ true → wide_number s at n ≡ number s at n
  unfolding wide_number number
  wide_is zero e = refl
  wide_is (suc n) e =
      omega (arith, wide_is n (fewer_digits s at n e), wide_digit (digit (get_or s (at + n) 0)) (last_digit s at n e))

  -- and where one is none it is larger than any of 8 digits
  pub wide_above : (n : ℕ) → digits s at n ≡ false → no_number ≤ wide_number s at n
  unfolding wide_number digits
  wide_above zero e = absurd (true≢false e)
  wide_above (suc n) e =
      by_cases (digits s at n)
      (λ d.
      elim (dec_lt (digit (get_or s (at + n) 0)) 16) [
        | yes l ↦ absurd (true≢false (sym (digits_step s at n d l) ∙ e))
        | no l ↦ omega (arith, wide_none (digit (get_or s (at + n) 0)) (omega arith))
      ])
      (λ d. omega (arith, wide_above n d))

  -- so one test tells
  pub below_are : (n : ℕ) → n ≤ 8 → wide_number s at n < no_number → (digits s at n ≡ true) × (wide_number s at n ≡ number s at n)
  below_are n h l =
      by_cases (digits s at n) (λ d. (d, wide_is n d)) (λ d. absurd (omega (arith, l, wide_above n d)))

  pub above_none : (n : ℕ) → n ≤ 8 → no_number ≤ wide_number s at n → digits s at n ≡ false
  above_none n h l =
      by_cases (digits s at n)
      (λ d. absurd (omega (arith, l, wide_is n d, number_lt s at n d, pow-le-pow_right {n = 16} (omega arith) h)))
      (λ d. d)

  -- whatever the bytes, it stays far below 2 to the 64
  top : (n : ℕ) → 15 * wide_number s at n + no_number ≤ no_number * 16 ^ n
  unfolding wide_number
  top zero = omega arith
  top (suc n) = rw pow-suc (omega (arith, top n, wide_most (digit (get_or s (at + n) 0))))

  pub wide_top : (n : ℕ) → n < 8 → wide_number s at n * 16 + no_number ≤ 1229782938247303440
  wide_top n h = omega (arith, top n, pow-le-pow_right {n = 16} (omega arith) (let l : n ≤ 7 = omega arith in l))
