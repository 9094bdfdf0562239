-- Numbers and lines that are written and read again are what they were.
-- Assumes nothing.
use Prim.Native.Nat.{ℕ, zero, suc, ◌+◌, ◌-◌, ◌*◌, ◌/◌, ◌%◌, ◌^◌, ◌<◌}
use mathlib.Core.Path.{◌≡◌, refl, ap, ◌∙◌}
use mathlib.Core.List.{List, [], ◌∷◌, ◌++◌, append_assoc}
use native.Mathlib.Omega.{arith}
use native.Mathlib.Decide.{dec_lt}
use native.Mathlib.Nat.{zero-add, pow-suc}
use lib.ListN.{length, get_or, length-append, get_or-append}
use lib.Seq.{get_or_at, get_or-append-add}
use Rattle.text.specs.Hex.{digit_of, hex, end_of_line}
use Rattle.text.specs.Text.{end_byte, digit, number, Line}
use Rattle.text.proofs.Bytes.{decimal, letter}
use Rattle.text.proofs.Hex.{small_digit, large_digit, length_hex}

digit_again : (v : ℕ) → v < 16 → digit (digit_of v) ≡ v
digit_again v h =
    elim (dec_lt v 10) [
      | yes l ↦ rw (small_digit v l) (omega (arith, decimal (48 + v) (omega arith) (omega arith)))
      | no l ↦ rw (large_digit v (omega arith)) (omega (arith, letter (55 + v) (omega arith) (omega arith)))
    ]

-- a list whose bytes are all digits
abbrev pub AllDigits : List ℕ → Type 0
AllDigits l = (i : ℕ) → i < length l → digit (get_or l i 0) < 16

pub append_digits : (a b : List ℕ) → AllDigits a → AllDigits b → AllDigits (a ++ b)
append_digits a b p q i l =
    elim (dec_lt i (length a)) [
      | yes k ↦ rw (get_or-append a b 0 i k) (p i k)
      | no k ↦
          (let j = i - length a in
          let e : i ≡ length a + j = omega arith in
          rw (e, get_or-append-add a b j 0) (q j (omega (arith, length-append a b))))
    ]

one_digit : (v : ℕ) → v < 16 → AllDigits (digit_of v ∷ [])
one_digit v h zero l = omega (arith, digit_again v h)
one_digit v h (suc i) l = absurd (omega arith)

pub hex_digits : (n x : ℕ) → AllDigits (hex n x)
unfolding hex
hex_digits zero x i l = absurd (omega arith)
hex_digits (suc n) x i l =
    append_digits (hex n (x / 16)) (digit_of (x % 16) ∷ []) (hex_digits n (x / 16)) (one_digit (x % 16) (omega arith)) i l

-- digits and an end byte are a line
pub digits_line : (l rest : List ℕ) (n : ℕ) → length l ≡ n → AllDigits l → Line (l ++ (end_of_line ++ rest)) 0 n
digits_line l rest n e p =
    record {
      inside = omega (arith, e, length-append l (end_byte ∷ rest));
      each_digit = λ i k. rw (zero-add, get_or-append l (end_byte ∷ rest) 0 i (omega (arith, e))) (p i (omega (arith, e)));
      ends = rw zero-add (get_or_at l end_byte rest 0 n e);
    }

-- a number in n digits
pub number_again : (n x : ℕ) (rest : List ℕ) → x < 16 ^ n → number (hex n x ++ rest) 0 n ≡ x
unfolding number hex
number_again zero x rest h = omega arith
number_again (suc n) x rest h =
    let d = digit_of (x % 16) in
    let s = hex n (x / 16) ++ (d ∷ rest) in
    let e : (hex n (x / 16) ++ (d ∷ [])) ++ rest ≡ s = append_assoc (hex n (x / 16)) (d ∷ []) rest in
    let small : x < 16 ^ n * 16 = rw pow-suc at h in
    let high : number s 0 n ≡ x / 16 = number_again n (x / 16) (d ∷ rest) (omega arith) in
    let low : get_or s (0 + n) 0 ≡ d = rw zero-add (get_or_at (hex n (x / 16)) d rest 0 n (length_hex n (x / 16))) in
    let last : digit (get_or s (0 + n) 0) ≡ x % 16 = ap digit low ∙ digit_again (x % 16) (omega arith) in
    ap (λ (t : List ℕ). number t 0 (suc n)) e ∙ omega (arith, high, last)

-- the same at a later place
module _ (before s : List ℕ) (at k : ℕ) (e : k ≡ length before + at) where
  skip : (i : ℕ) → get_or (before ++ s) (k + i) 0 ≡ get_or s (at + i) 0
  skip i =
      let f : k + i ≡ length before + (at + i) = omega (arith, e) in
      rw f (get_or-append-add before s (at + i) 0)

  pub number_after : (n : ℕ) → number (before ++ s) k n ≡ number s at n
  unfolding number
  number_after zero = refl
  number_after (suc n) = rw (number_after n, skip n)

  pub line_after : (n : ℕ) → Line s at n → Line (before ++ s) k n
  line_after n l =
      record {
        inside = omega (arith, e, l.inside, length-append before s);
        each_digit = λ i h. rw (skip i) (l.each_digit i h);
        ends = rw (skip n) l.ends;
      }
