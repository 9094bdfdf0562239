-- Laws of digits, numbers and lines.
-- Assumes nothing.
use Prim.Native.Nat.{ℕ, zero, suc, ◌+◌, ◌-◌, ◌*◌, ◌^◌, ◌≤◌, ◌<◌}
use mathlib.Core.Path.{◌≡◌, refl, ◌∙◌}
use mathlib.Core.Bool.{true, false, ◌&&◌, and-false}
use mathlib.Core.List.{List}
use native.Mathlib.Omega.{arith}
use native.Mathlib.Numerals.{add-one}
use native.Mathlib.Decide.{dec_lt}
use native.Mathlib.Nat.{pow-suc, pow-le-pow_right}
use lib.Dec.{eqb, ltb}
use lib.ListN.{length, get_or, take, drop, length-drop}
use lib.Seq.{get_or-drop}
use Rattle.std.proofs.lemmas.List.{get_or-take, length-take-le}
use borrow.Author.Tests.{lt-ltb, le-ltb, ltb-true, eqb-true}
use Rattle.counting.proofs.Bits.{by_cases, and_left, and_right}
use Rattle.counting.proofs.Lists.{get_or_tabulate}
use Rattle.text.specs.Text.{digit, digit_values, digits, number, is_line, is_digit, end_byte}

-- the table of values, read at a byte
pub value_of : (l : List ℕ) → l ≡ digit_values → (b : ℕ) → b < 256 → get_or l b 0 ≡ digit b
unfolding digit_values
value_of l e b h = rw e (get_or_tabulate 256 digit b 0 h)

-- the n bytes from a place on, as a part of the text
pub part_at : (s : List ℕ) (at n k : ℕ) → k < n → get_or (take (at + n - at) (drop at s)) k 0 ≡ get_or s (at + k) 0
part_at s at n k l = get_or-take (at + n - at) (drop at s) k 0 (omega arith) ∙ get_or-drop at s k 0

pub part_long : (s : List ℕ) (at n : ℕ) → at + n ≤ length s → length (take (at + n - at) (drop at s)) ≡ n
part_long s at n h =
    let long : length (drop at s) ≡ length s - at = length-drop at s in
    let e : at + n - at ≡ n = omega arith in
    rw e (length-take-le n (drop at s) (omega (arith, long)))

module _ (s : List ℕ) (at : ℕ) where
  pub number_step : (n : ℕ) → number s at n * 16 + digit (get_or s (at + n) 0) ≡ number s at (suc n)
  unfolding number
  number_step n = refl

  pub digits_step : (n : ℕ) → digits s at n ≡ true → digit (get_or s (at + n) 0) < 16 → digits s at (suc n) ≡ true
  unfolding digits
  digits_step n e h = rw (e, lt-ltb _ _ h)

  pub last_digit : (n : ℕ) → digits s at (suc n) ≡ true → digit (get_or s (at + n) 0) < 16
  unfolding digits
  last_digit n e = ltb-true _ _ (and_right (digits s at n) _ e)

  pub fewer_digits : (n : ℕ) → digits s at (suc n) ≡ true → digits s at n ≡ true
  unfolding digits
  fewer_digits n e = and_left (digits s at n) (is_digit (get_or s (at + n) 0)) e

  pub digit_at : (n i : ℕ) → digits s at n ≡ true → i < n → digit (get_or s (at + i) 0) < 16
  digit_at zero i e h = omega arith
  digit_at (suc n) i e h =
      elim (dec_lt i n) [
        | yes l ↦ digit_at n i (fewer_digits n e) l
        | no l ↦ (let q : i ≡ n = omega arith in rw q (last_digit n e))
      ]

  pub all_digits : (n : ℕ) → ((i : ℕ) → i < n → digit (get_or s (at + i) 0) < 16) → digits s at n ≡ true
  unfolding digits
  all_digits zero h = refl
  all_digits (suc n) h = digits_step n (all_digits n (λ i l. h i (omega arith))) (h n (omega arith))

  -- one byte that is no digit spoils them all
  pub not_digits : (n i : ℕ) → i < n → 16 ≤ digit (get_or s (at + i) 0) → digits s at n ≡ false
  not_digits n i l h = by_cases (digits s at n) (λ e. absurd (omega (arith, digit_at n i e l))) (λ e. e)

  -- n digits are below 16 to the n
  pub number_lt : (n : ℕ) → digits s at n ≡ true → number s at n < 16 ^ n
  unfolding number
  number_lt zero e = omega arith
  number_lt (suc n) e = rw pow-suc (omega (arith, number_lt n (fewer_digits n e), last_digit n e))

  -- eight digits fit in 32 bits
  pub number_small : (n : ℕ) → n ≤ 8 → digits s at n ≡ true → number s at n < 4294967296
  number_small n h e = omega (arith, number_lt n e, pow-le-pow_right {n = 16} (omega arith) h)

  -- a line: what it takes and what it gives
  pub line_long : (n : ℕ) → is_line s at n ≡ true → at + n < length s
  unfolding is_line
  line_long n e = ltb-true _ _ (and_left (ltb (at + n) (length s)) (digits s at n && eqb (get_or s (at + n) 0) end_byte) e)

  pub digits_of_line : (n : ℕ) → is_line s at n ≡ true → digits s at n ≡ true
  unfolding is_line
  digits_of_line n e = and_left (digits s at n) (eqb (get_or s (at + n) 0) end_byte) (and_right (ltb (at + n) (length s)) _ e)

  pub line_end : (n : ℕ) → is_line s at n ≡ true → get_or s (at + n) 0 ≡ end_byte
  unfolding is_line
  line_end n e = eqb-true _ _ (and_right (digits s at n) _ (and_right (ltb (at + n) (length s)) _ e))

  pub is_line_is : (n : ℕ) → at + n < length s → digits s at n ≡ true → is_line s at n ≡ eqb (get_or s (at + n) 0) end_byte
  unfolding is_line
  is_line_is n h e = rw (lt-ltb _ _ h, e)

  pub too_short : (n : ℕ) → length s ≤ at + n → is_line s at n ≡ false
  unfolding is_line
  too_short n h = rw (le-ltb _ _ h)

  pub no_digits : (n : ℕ) → digits s at n ≡ false → is_line s at n ≡ false
  unfolding is_line
  no_digits n e = rw e (and-false (ltb (at + n) (length s)))

  -- the same with the code's `n + 1`
  pub digits_on : (n : ℕ) → digits s at n ≡ true → digit (get_or s (at + n) 0) < 16 → digits s at (n + 1) ≡ true
  digits_on n e h = rw add-one (digits_step n e h)

  pub number_on : (n : ℕ) → number s at n * 16 + digit (get_or s (at + n) 0) ≡ number s at (n + 1)
  number_on n = rw add-one (number_step n)

  pub number_fits : (n i : ℕ) → n ≤ 8 → i < n → digits s at n ≡ true → number s at i * 16 + digit (get_or s (at + i) 0) < 4294967296
  number_fits n i h l e =
      let d : digits s at (suc i) ≡ true = all_digits (suc i) (λ j k. digit_at n j e (omega arith)) in
      rw number_step (number_small (suc i) (omega arith) d)

-- some of the digits of a line that starts the text
pub field_digits : (s : List ℕ) (n at k : ℕ) → is_line s 0 n ≡ true → at + k ≤ n → digits s at k ≡ true
field_digits s n at k e h =
    all_digits s at k
    (λ i l. let q : 0 + (at + i) ≡ at + i = omega arith in rw q at (digit_at s 0 n (at + i) (digits_of_line s 0 n e) (omega arith)))
