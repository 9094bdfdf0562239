-- The four kinds of bytes: a digit 0-9, a letter A-F, a letter a-f, and one that is no digit. Each with its value and with what it is in
-- upper case.
-- Assumes nothing.
use Prim.Native.Nat.{ℕ, ◌-◌, ◌≤◌, ◌<◌}
use mathlib.Core.Path.{◌≡◌, ap, sym, ◌∙◌}
use mathlib.Core.Bool.{true, ◌&&◌}
use native.Mathlib.Omega.{arith}
use lib.Dec.{eqb, leb}
use borrow.Author.Tests.{le-leb, lt-leb, leb-true, ne_eqb}
use Rattle.counting.proofs.Bits.{by_cases, and_left, and_right}
use Rattle.text.specs.Text.{digit, end_byte}
use Rattle.text.specs.UpperCase.{upper}

pub decimal : (b : ℕ) → 48 ≤ b → b ≤ 57 → digit b ≡ b - 48
unfolding digit
decimal b l h = rw (le-leb 48 b l, le-leb b 57 h)

pub letter : (b : ℕ) → 65 ≤ b → b ≤ 70 → digit b ≡ b - 55
unfolding digit
letter b l h = rw (lt-leb b 57 (omega arith), le-leb 48 b (omega arith), le-leb 65 b l, le-leb b 70 h)

small_letter : (b : ℕ) → 97 ≤ b → b ≤ 102 → digit b ≡ b - 87
unfolding digit
small_letter b l h =
    rw (
      lt-leb b 57 (omega arith),
      le-leb 48 b (omega arith),
      lt-leb b 70 (omega arith),
      le-leb 65 b (omega arith),
      le-leb 97 b l,
      le-leb b 102 h,
    )

pub raised : (b : ℕ) → 97 ≤ b → b ≤ 102 → upper b ≡ b - 32
unfolding upper
raised b l h = rw (le-leb 97 b l, le-leb b 102 h)

pub stays : (b : ℕ) → b < 97 → upper b ≡ b
unfolding upper
stays b h = rw (lt-leb 97 b h)

pub beyond : (b : ℕ) → 102 < b → upper b ≡ b
unfolding upper
beyond b h = rw (lt-leb b 102 h, le-leb 97 b (omega arith))

pub data Kind (b : ℕ) : Type 0 where
  is_decimal : 48 ≤ b → b ≤ 57 → digit b ≡ b - 48 → upper b ≡ b → Kind b
  is_letter : 65 ≤ b → b ≤ 70 → digit b ≡ b - 55 → upper b ≡ b → Kind b
  is_small : 97 ≤ b → b ≤ 102 → digit b ≡ b - 87 → upper b ≡ b - 32 → Kind b
  is_none : digit b ≡ 255 → upper b ≡ b → Kind b

between : (low high b : ℕ) → (leb low b && leb b high) ≡ true → (low ≤ b) × (b ≤ high)
between low high b e = (
  leb-true low b (and_left (leb low b) (leb b high) e),
  leb-true b high (and_right (leb low b) (leb b high) e),
)

pub kind : (b : ℕ) → Kind b
unfolding digit upper
kind b =
    by_cases (leb 48 b && leb b 57)
    (λ e. let r = between 48 57 b e in is_decimal r.0 r.1 (decimal b r.0 r.1) (stays b (omega (arith, r.1))))
    (λ n.
    by_cases (leb 65 b && leb b 70)
    (λ e. let r = between 65 70 b e in is_letter r.0 r.1 (letter b r.0 r.1) (stays b (omega (arith, r.1))))
    (λ m.
    by_cases (leb 97 b && leb b 102)
    (λ e. let r = between 97 102 b e in is_small r.0 r.1 (small_letter b r.0 r.1) (raised b r.0 r.1))
    (λ k. is_none (rw (n, m, k)) (rw k))))

-- a byte that is no digit has a value of its own, far above the digits'
below_of : (b : ℕ) → Kind b → digit b < 255 → digit b < 16
below_of b (is_decimal l h d u) p = omega (arith, d, l, h)
below_of b (is_letter l h d u) p = omega (arith, d, l, h)
below_of b (is_small l h d u) p = omega (arith, d, l, h)
below_of b (is_none d u) p = absurd (omega (arith, d, p))

pub digit_below : (b : ℕ) → digit b < 255 → digit b < 16
digit_below b = below_of b (kind b)

-- a value below 10 has a byte from `0` to `9`
low_of : (b : ℕ) → Kind b → digit b < 10 → (48 ≤ b) × (b ≤ 57) × (digit b ≡ b - 48)
low_of b (is_decimal l h d u) p = (l, h, d)
low_of b (is_letter l h d u) p = absurd (omega (arith, d, l, h, p))
low_of b (is_small l h d u) p = absurd (omega (arith, d, l, h, p))
low_of b (is_none d u) p = absurd (omega (arith, d, p))

pub low_digit : (b : ℕ) → digit b < 10 → (48 ≤ b) × (b ≤ 57) × (digit b ≡ b - 48)
low_digit b = low_of b (kind b)

-- a byte has the value that it has in upper case
value_of_upper : (b : ℕ) → Kind b → digit (upper b) ≡ digit b
value_of_upper b (is_decimal l h d u) = ap digit u
value_of_upper b (is_letter l h d u) = ap digit u
value_of_upper b (is_small l h d u) = ap digit u ∙ letter (b - 32) (omega (arith, l)) (omega (arith, h)) ∙ omega (arith, d, l)
value_of_upper b (is_none d u) = ap digit u

pub digit_upper : (b : ℕ) → digit (upper b) ≡ digit b
digit_upper b = value_of_upper b (kind b)

-- and it is the end byte in upper case just when it is the end byte
end_of_upper : (b : ℕ) → Kind b → eqb (upper b) end_byte ≡ eqb b end_byte
end_of_upper b (is_decimal l h d u) = ap (λ (x : ℕ). eqb x end_byte) u
end_of_upper b (is_letter l h d u) = ap (λ (x : ℕ). eqb x end_byte) u
end_of_upper b (is_small l h d u) =
    ap (λ (x : ℕ). eqb x end_byte) u
    ∙ ne_eqb (b - 32) end_byte (λ e. omega (arith, e, l))
    ∙ sym (ne_eqb b end_byte (λ e. omega (arith, e, l)))
end_of_upper b (is_none d u) = ap (λ (x : ℕ). eqb x end_byte) u

pub end_upper : (b : ℕ) → eqb (upper b) end_byte ≡ eqb b end_byte
end_upper b = end_of_upper b (kind b)
