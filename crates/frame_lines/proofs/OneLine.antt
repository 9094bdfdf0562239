-- One line, read byte by byte: what the reader's tests say of it. Stated over the edition; the two loops differ in the digits after the card.
-- Assumes nothing.
use Prim.Native.Nat.{ℕ, zero, suc, ◌+◌, ◌-◌, ◌*◌, ◌^◌, ◌≤◌, ◌<◌}
use mathlib.Core.Path.{◌≡◌, refl, sym, ap, ◌∙◌}
use mathlib.Core.Bool.{true, false, true≢false}
use mathlib.Core.List.{List}
use native.Mathlib.Omega.{arith}
use native.Mathlib.Numerals.{add-one}
use native.Mathlib.Decide.{dec_lt}
use native.Mathlib.Nat.{add-zero, mul-le-mul}
use lib.ListN.{length, get_or}
use borrow.Author.Tests.{eq-eqb, lt-ltb}
use Rattle.text.specs.Text.{end_byte, digit, digits, number, is_line}
use Rattle.text.specs.Wide.{no_number, wide_number}
use Rattle.text.proofs.WideNumbers.{below_are, above_none}
use Rattle.text.proofs.Bytes.{digit_below}
use Rattle.text.proofs.Digits.{number_lt, digit_at, all_digits, digits_of_line, line_end, is_line_is}
use Rattle.header.specs.Limits.{max_frames}
use Rattle.header.proofs.Widths.{widest}
use Rattle.header.specs.Editions.{edition2, card_digits, second_digits, line_digits, line_bytes}
use Rattle.frame_lines.specs.Lines.{card_at, second_at, second_before, line_fault, lines_fault}
use Rattle.frame_lines.proofs.Faults.{line_0, passing, next_line}
use Rattle.frame_lines.proofs.Places.{place_next, place_inside}

-- digits one after another
module _ (s : List ℕ) (at : ℕ) where
  place : (m i : ℕ) → at + (m + i) ≡ at + m + i
  place m i = omega arith

  pub digits_join : (m n : ℕ) → digits s at m ≡ true → digits s (at + m) n ≡ true → digits s at (m + n) ≡ true
  digits_join m n a b =
      all_digits s at (m + n)
      (λ i l.
      elim (dec_lt i m) [
        | yes h ↦ digit_at s at m i a h
        | no h ↦
            (let j = i - m in
            let q : at + i ≡ at + m + j = omega arith in
            rw q (digit_at s (at + m) n j b (omega arith)))
      ])

  pub digits_after : (m n : ℕ) → digits s at (m + n) ≡ true → digits s (at + m) n ≡ true
  digits_after m n a = all_digits s (at + m) n (λ i l. rw (← place m i) (digit_at s at (m + n) (m + i) a (omega arith)))

  pub two_digit_number : number s at card_digits ≡ digit (get_or s at 0) * 16 + digit (get_or s (at + 1) 0)
  unfolding number
  two_digit_number = rw add-zero (omega arith)

  pub two_digits : digit (get_or s at 0) < 16 → digit (get_or s (at + 1) 0) < 16 → digits s at card_digits ≡ true
  unfolding digits
  two_digits h l = rw (add-zero, lt-ltb _ _ h, lt-ltb _ _ l)

-- where line i stands in a part that has so many lines
module _ (edition i at : ℕ) (a : at ≡ line_bytes edition * i) where
  pub line_fits : (lines long : ℕ) → i < lines → line_bytes edition * lines ≤ long → at + line_digits edition < long
  line_fits lines long l h = omega (arith, a, h, place_inside (line_bytes edition) i lines l)

  pub line_next : {d : ℕ} → d ≡ line_digits edition → at + (d + 1) ≡ line_bytes edition * (i + 1)
  line_next q = omega (arith, a, q, place_next (line_bytes edition) i)

-- the bytes of so many lines are counted in 16 bits
pub few_bytes : (edition i : ℕ) {d : ℕ} → d ≡ line_digits edition → i ≤ max_frames → (d + 1) * i ≤ 45056
few_bytes edition i {d} q l = mul-le-mul {n₁ = d + 1} {m₁ = i} {n₂ = 11} {m₂ = max_frames} (omega (arith, q, widest edition)) l

-- line i, whose two first bytes were read as v
module _
    (edition : ℕ) (s : List ℕ) (cards i at v : ℕ) (a : at ≡ line_bytes edition * i)
    (e : v ≡ digit (get_or s at 0) * 16 + digit (get_or s (at + 1) 0)) where
  pub is_card : v ≡ card_at edition s i
  unfolding card_at
  is_card = e ∙ rw a (sym (two_digit_number s (line_bytes edition * i)))

  -- a card that the ticket has not, a second that is none or falls, or another end byte: the line does not pass
  pub too_high : cards ≤ v → line_fault edition s cards i ≡ 0 → ⊥
  too_high l z = omega (arith, is_card, (passing edition s cards i z).1)

  pub no_second : digits s (at + card_digits) (second_digits edition) ≡ false → line_fault edition s cards i ≡ 0 → ⊥
  no_second n z =
      let d = digits_of_line s (line_bytes edition * i) (line_digits edition) (passing edition s cards i z).0 in
      true≢false (sym (rw a (digits_after s (line_bytes edition * i) card_digits (second_digits edition) d)) ∙ n)

  pub falls : second_at edition s i < second_before edition s i → line_fault edition s cards i ≡ 0 → ⊥
  falls l z = omega (arith, l, (passing edition s cards i z).2)

  pub other_end : {d : ℕ} → d ≡ line_digits edition → (get_or s (at + d) 0 ≡ end_byte → ⊥) → line_fault edition s cards i ≡ 0 → ⊥
  other_end q n z = n (rw (q, a) (line_end s (line_bytes edition * i) (line_digits edition) (passing edition s cards i z).0))

  -- otherwise it passes: both digits of the card are digits, since a byte that is none makes v at least 255
  module _
      (few : cards ≤ 255) (l : v < cards) (second : digits s (at + card_digits) (second_digits edition) ≡ true)
      (order : second_before edition s i ≤ second_at edition s i) {d : ℕ} (q : d ≡ line_digits edition) (inside : at + d < length s)
      (ends : get_or s (at + d) 0 ≡ end_byte) where
    passes_line : line_fault edition s cards i ≡ 0
    passes_line =
        let h : digit (get_or s at 0) < 16 = digit_below (get_or s at 0) (omega arith) in
        let k : digit (get_or s (at + 1) 0) < 16 = digit_below (get_or s (at + 1) 0) (omega arith) in
        let all : digits s at (line_digits edition) ≡ true = digits_join s at card_digits (second_digits edition) (two_digits s at h k) second in
        let line : is_line s at (line_digits edition) ≡ true =
        is_line_is s at (line_digits edition) (rw q at inside) all ∙ eq-eqb _ _ (rw q at ends) in
        line_0 edition s cards i (rw a at line) (rw is_card at l) order

    pub passes : lines_fault edition s cards i ≡ 0 → lines_fault edition s cards (i + 1) ≡ 0
    passes z = rw (add-one i) (next_line edition s cards i z ∙ passes_line)

-- the second of the line before the next one
pub before_next : (edition : ℕ) (s : List ℕ) (i : ℕ) → second_at edition s i ≡ second_before edition s (i + 1)
unfolding second_before
before_next edition s i = rw (add-one i)

pub before_first : (edition : ℕ) (s : List ℕ) → 0 ≡ second_before edition s 0
unfolding second_before
before_first edition s = refl

-- a second is as small as its digits say
pub second_small :
    (edition : ℕ) (s : List ℕ) (i : ℕ) → is_line s (line_bytes edition * i) (line_digits edition) ≡ true
    → second_at edition s i < 16 ^ second_digits edition
unfolding second_at
second_small edition s i l =
    let at = line_bytes edition * i in
    number_lt s (at + card_digits) (second_digits edition)
    (digits_after s at card_digits (second_digits edition) (digits_of_line s at (line_digits edition) l))

-- lines without a second
module _ (edition : ℕ) (s : List ℕ) (none : second_digits edition ≡ 0) where
  no_digits : (at : ℕ) → digits s at (second_digits edition) ≡ true
  unfolding digits
  no_digits at = rw none

  pub all_zero : (i : ℕ) → second_at edition s i ≡ 0
  unfolding second_at number
  all_zero i = rw none

  before_zero : (i : ℕ) → second_before edition s i ≡ 0
  unfolding second_before
  before_zero zero = refl
  before_zero (suc i) = all_zero i

  pub nothing_asked : (at i : ℕ) → (digits s at (second_digits edition) ≡ true) × (second_before edition s i ≤ second_at edition s i)
  nothing_asked at i = (no_digits at, omega (arith, before_zero i, all_zero i))

-- in edition 02 a second of 8 digits does
pub eight_of : {edition : ℕ} → edition ≡ edition2 → second_digits edition ≡ 8
unfolding second_digits
eight_of e = rw e refl

-- what follows the card, read as x
module _
    (edition : ℕ) (s : List ℕ) (i at x : ℕ) {n : ℕ} (few : second_digits edition ≡ n) (a : at ≡ line_bytes edition * i)
    (e : x ≡ wide_number s (at + card_digits) n) where
  no_more : n ≤ 8
  no_more = omega (arith, few, widest edition)

  pub none_read : no_number ≤ x → digits s (at + card_digits) (second_digits edition) ≡ false
  none_read l = rw few (above_none s (at + card_digits) n no_more (omega (arith, e, l)))

  pub one_read : x < no_number → (digits s (at + card_digits) (second_digits edition) ≡ true) × (x ≡ second_at edition s i)
  unfolding second_at
  one_read l =
      let are = below_are s (at + card_digits) n no_more (omega (arith, e, l)) in
      let there = ap (λ (k : ℕ). number s (k + card_digits) n) a in
      let all = ap (λ (n : ℕ). number s (line_bytes edition * i + card_digits) n) (sym few) in
      (rw few are.0, e ∙ are.1 ∙ there ∙ all)
