-- Laws of the editions: which are read, and the width of a line.
-- Assumes nothing.
use Prim.Native.Nat.{ℕ, ◌*◌, ◌+◌, ◌-◌, ◌≤◌, ◌<◌}
use mathlib.Core.Path.{◌≡◌, sym, ◌∙◌}
use mathlib.Core.Bool.{true, false, true≢false}
use mathlib.Core.List.{List}
use mathlib.Core.Logic.{◌⊎◌, inl, inr, ⊎_elim}
use native.Mathlib.Omega.{arith}
use native.Mathlib.Decide.{dec_lt}
use lib.Dec.{eqb}
use lib.ListN.{length, get_or, get_or-eq_default}
use borrow.Author.Tests.{eq-eqb, ne_eqb, eqb-true, lt-ltb, le-ltb}
use Rattle.counting.proofs.Bits.{by_cases, or_cases, or_right}
use Rattle.text.specs.Text.{digit, number}
use Rattle.text.proofs.Bytes.{decimal, low_digit}
use Rattle.header.specs.Heading.{header_of, edition_of, low_edition}
use Rattle.header.specs.Editions.{edition1, edition2, Known, known, card_digits, second_digits, line_digits}

module _ (e : ℕ) where
  pub known_is : Known e → known e ≡ true
  unfolding known
  known_is = ⊎_elim (λ q. rw q) (λ q. or_right (eqb e edition1) (eqb e edition2) (eq-eqb e edition2 q))

  -- an edition that is not 01 is read where it is 02
  pub other_known : (e ≡ edition1 → ⊥) → eqb e edition2 ≡ known e
  unfolding known
  other_known n = rw (ne_eqb e edition1 n)

  pub is_known : known e ≡ true → Known e
  unfolding known
  is_known k = or_cases (eqb e edition1) (eqb e edition2) k (λ q. inl (eqb-true _ _ q)) (λ q. inr (eqb-true _ _ q))

  pub not_known : (Known e → ⊥) → known e ≡ false
  not_known n = by_cases (known e) (λ k. absurd (n (is_known k))) (λ k. k)

  pub unknown : known e ≡ false → Known e → ⊥
  unknown k n = true≢false (sym (known_is n) ∙ k)

  -- "is it read?", decided
  pub known_or_not : Known e ⊎ (Known e → ⊥)
  known_or_not = by_cases (known e) (λ k. inl (is_known k)) (λ k. inr (unknown k))

  -- two digits have room for it
  pub known_small : Known e → e < 256
  known_small = ⊎_elim (λ q. omega (arith, q)) (λ q. omega (arith, q))

  -- the width
  pub with_second : e ≡ edition2 → 10 ≡ line_digits e
  unfolding second_digits
  with_second q = rw q

  pub no_second : (e ≡ edition2 → ⊥) → second_digits e ≡ 0
  unfolding second_digits
  no_second n = rw (ne_eqb _ _ n)

  pub card_alone : (e ≡ edition2 → ⊥) → card_digits ≡ line_digits e
  card_alone n = omega (arith, no_second n)

  -- no line is wider than one of edition 02
  pub widest : second_digits e ≤ 8
  unfolding second_digits
  widest = by_cases (eqb e edition2) (λ q. rw q (omega arith)) (λ q. rw q (omega arith))

-- The edition of a text below 10, read byte by byte.
module _ (t : List ℕ) where
  two_bytes : edition_of t ≡ digit (get_or t 0 0) * 16 + digit (get_or t 1 0)
  unfolding header_of number
  two_bytes = omega arith

  -- its bytes
  pub low_bytes : edition_of t < 10 → (get_or t 0 0 ≡ 48) × (48 ≤ get_or t 1 0) × (get_or t 1 0 ≤ 57)
  low_bytes l =
      let high = low_digit (get_or t 0 0) (omega (arith, l, two_bytes)) in
      let low = low_digit (get_or t 1 0) (omega (arith, l, two_bytes)) in
      (omega (arith, l, two_bytes, high.0, high.2), low.0, low.1)

  pub low_read : get_or t 0 0 ≡ 48 → 48 ≤ get_or t 1 0 → get_or t 1 0 ≤ 57 → get_or t 1 0 - 48 ≡ low_edition t
  unfolding low_edition
  low_read z l h =
      let first : digit (get_or t 0 0) ≡ 0 = rw z (decimal 48 (omega arith) (omega arith)) in
      let is : get_or t 1 0 - 48 ≡ edition_of t = omega (arith, two_bytes, first, decimal (get_or t 1 0) l h) in
      rw (lt-ltb (edition_of t) 10 (omega (arith, is, h))) is

  pub none_low : (edition_of t < 10 → ⊥) → 0 ≡ low_edition t
  unfolding low_edition
  none_low n = rw (le-ltb (edition_of t) 10 (elim (dec_lt (edition_of t) 10) [ yes l ↦ absurd (n l) | no l ↦ omega arith ]))

  pub short_none : length t < 2 → 0 ≡ low_edition t
  short_none h = none_low (λ l. omega (arith, (low_bytes l).1, get_or-eq_default t 0 {n = 1} (omega arith)))

  -- the width of a line goes by it
  pub low_width : line_digits (low_edition t) ≡ line_digits (edition_of t)
  unfolding low_edition
  low_width =
      elim (dec_lt (edition_of t) 10) [
        | yes l ↦ rw (lt-ltb (edition_of t) 10 l)
        | no l ↦
            rw (le-ltb (edition_of t) 10 (omega arith)) (sym (card_alone 0 (λ e. omega arith)) ∙ card_alone (edition_of t) (λ e. omega arith))
      ]
