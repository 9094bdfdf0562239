-- Laws of the frame lines' refusals: which line is refused first, and by what. All of them hold for every edition.
-- Assumes nothing.
use Prim.Native.Nat.{ℕ, zero, suc, ◌*◌, ◌≤◌, ◌<◌}
use mathlib.Core.Path.{◌≡◌, refl, sym, ◌∙◌}
use mathlib.Core.Bool.{true, false}
use mathlib.Core.List.{List, ◌++◌}
use native.Mathlib.Omega.{arith}
use native.Mathlib.Decide.{dec_lt, ℕ_discrete}
use lib.ListN.{length, drop}
use lib.Dec.{eqb, ltb}
use borrow.Author.Tests.{lt-ltb, le-ltb, ltb-true, ltb-false, ne_eqb}
use Rattle.counting.specs.Count.{bit, tabulate}
use Rattle.counting.proofs.Bits.{by_cases}
use Rattle.counting.proofs.Sums.{sum_cong, all_below, how_many_le}
use Rattle.text.specs.Text.{is_line}
use Rattle.header.specs.Editions.{line_digits, line_bytes}
use Rattle.frame_lines.specs.Lines.{card_at, second_at, second_before, line_fault, lines_fault, part_fault, lines_passing, cards_read}
use Rattle.frame_lines.specs.Reading.{not_passing}

module _ (edition : ℕ) (s : List ℕ) (cards : ℕ) where
  module _ (i : ℕ) where
    abbrev is_aLine : Type 0
    is_aLine = is_line s (line_bytes edition * i) (line_digits edition) ≡ true

    pub line_7 : is_line s (line_bytes edition * i) (line_digits edition) ≡ false → line_fault edition s cards i ≡ 7
    unfolding line_fault
    line_7 e = rw e

    pub line_8 : is_aLine → cards ≤ card_at edition s i → line_fault edition s cards i ≡ 8
    unfolding line_fault
    line_8 e h = rw (e, le-ltb _ _ h)

    pub line_17 : is_aLine → card_at edition s i < cards → second_at edition s i < second_before edition s i → line_fault edition s cards i ≡ 17
    unfolding line_fault
    line_17 e h f = rw (e, lt-ltb _ _ h, lt-ltb _ _ f)

    pub line_0 : is_aLine → card_at edition s i < cards → second_before edition s i ≤ second_at edition s i → line_fault edition s cards i ≡ 0
    unfolding line_fault
    line_0 e h f = rw (e, lt-ltb _ _ h, le-ltb _ _ f)

    -- a line without a refusal is a line, with a card of the ticket, and its second does not fall
    pub passing :
        line_fault edition s cards i ≡ 0 → is_aLine × (card_at edition s i < cards) × (second_before edition s i ≤ second_at edition s i)
    unfolding line_fault
    passing z =
        by_cases (is_line s (line_bytes edition * i) (line_digits edition))
        (λ e.
        by_cases (ltb (card_at edition s i) cards)
        (λ l.
        by_cases (ltb (second_at edition s i) (second_before edition s i))
        (λ f. absurd (omega (arith, rw (e, l, f) at z)))
        (λ f. let h : second_before edition s i ≤ second_at edition s i = ltb-false _ _ f in (e, ltb-true _ _ l, h)))
        (λ l. absurd (omega (arith, rw (e, l) at z))))
        (λ e. absurd (omega (arith, rw e at z)))

    -- a line that does not pass
    pub fault_of : (line_fault edition s cards i ≡ 0 → ⊥) → line_fault edition s cards i ≡ not_passing edition s cards i
    unfolding line_fault not_passing
    fault_of n =
        by_cases (is_line s (line_bytes edition * i) (line_digits edition))
        (λ e.
        by_cases (ltb (card_at edition s i) cards)
        (λ l.
        by_cases (ltb (second_at edition s i) (second_before edition s i)) (λ f. rw (e, l, f) refl) (λ f. absurd (n (rw (e, l, f) refl))))
        (λ l. rw (e, l) refl))
        (λ e. rw e refl)

  -- no refusal in the first n lines: the next one decides
  pub next_line : (n : ℕ) → lines_fault edition s cards n ≡ 0 → lines_fault edition s cards (suc n) ≡ line_fault edition s cards n
  unfolding lines_fault
  next_line n e = rw e

  -- a refusal stays
  pub stays : (n e : ℕ) → lines_fault edition s cards n ≡ e → (e ≡ 0 → ⊥) → lines_fault edition s cards (suc n) ≡ e
  unfolding lines_fault
  stays n e q h = rw (q, ne_eqb _ _ h)

  pub first_fault :
      (n i e : ℕ) → i < n → lines_fault edition s cards i ≡ 0 → line_fault edition s cards i ≡ e → (e ≡ 0 → ⊥)
      → lines_fault edition s cards n ≡ e
  first_fault zero i e l z q h = omega arith
  first_fault (suc n) i e l z q h =
      elim (dec_lt i n) [
        | yes k ↦ stays n e (first_fault n i e k z q h) h
        | no k ↦ (let m : i ≡ n = omega arith in rw m at (next_line i z ∙ q))
      ]

  -- no refusal in the first n lines, so none before
  without : (n : ℕ) → lines_fault edition s cards (suc n) ≡ 0 → lines_fault edition s cards n ≡ 0
  without n z =
      elim (ℕ_discrete (lines_fault edition s cards n) 0) [
        | yes e ↦ e
        | no k ↦ absurd (k (sym (stays n (lines_fault edition s cards n) refl k) ∙ z))
      ]

  none_before : (n i : ℕ) → i ≤ n → lines_fault edition s cards n ≡ 0 → lines_fault edition s cards i ≡ 0
  none_before zero i l z = let e : i ≡ 0 = omega arith in rw e z
  none_before (suc n) i l z =
      elim (ℕ_discrete i (suc n)) [ yes e ↦ rw e z | no k ↦ none_before n i (omega arith) (without n z) ]

  -- r lines pass and the next does not, if there is one
  pub passing_are :
      (n r : ℕ) → r ≤ n → lines_fault edition s cards r ≡ 0 → (r < n → line_fault edition s cards r ≡ 0 → ⊥)
      → lines_passing edition s cards n ≡ r
  unfolding lines_passing
  passing_are n r l z stops =
      sum_cong n (λ i. bit (eqb (lines_fault edition s cards (suc i)) 0)) (λ i. bit (ltb i r))
      (λ i k.
      elim (dec_lt i r) [
        | yes h ↦ rw (lt-ltb i r h, none_before r (suc i) (omega arith) z)
        | no h ↦
            (let n : lines_fault edition s cards (suc i) ≡ 0 → ⊥ =
            λ e. stops (omega arith) (sym (next_line r z) ∙ none_before (suc i) (suc r) (omega arith) e) in
            rw (le-ltb i r (omega arith), ne_eqb (lines_fault edition s cards (suc i)) 0 n))
      ])
      ∙ all_below n r l

  pub passing_few : (n : ℕ) → lines_passing edition s cards n ≤ n
  unfolding lines_passing
  passing_few n = how_many_le n (λ i. eqb (lines_fault edition s cards (suc i)) 0)

  pub no_fault : (n : ℕ) → ((i : ℕ) → i < n → line_fault edition s cards i ≡ 0) → lines_fault edition s cards n ≡ 0
  unfolding lines_fault
  no_fault zero h = refl
  no_fault (suc n) h = next_line n (no_fault n (λ i l. h i (omega arith))) ∙ h n (omega arith)

  -- the whole part
  pub part_fault_is : (n e : ℕ) → lines_fault edition s cards n ≡ e → (e ≡ 0 → ⊥) → part_fault edition s cards n ≡ e
  unfolding part_fault
  part_fault_is n e q h = rw (q, ne_eqb _ _ h)

  pub part_9 : (n : ℕ) → lines_fault edition s cards n ≡ 0 → line_bytes edition * n < length s → part_fault edition s cards n ≡ 9
  unfolding part_fault
  part_9 n e h = rw (e, lt-ltb _ _ h)

  pub part_0 : (n : ℕ) → lines_fault edition s cards n ≡ 0 → length s ≤ line_bytes edition * n → part_fault edition s cards n ≡ 0
  unfolding part_fault
  part_0 n e h = rw (e, le-ltb _ _ h)

  -- a part without a refusal: every line's card is read
  pub all_read :
      (n : ℕ) (memory : List ℕ) → part_fault edition s cards n ≡ 0
      → cards_read edition s cards n memory ≡ tabulate n (card_at edition s) ++ drop n memory
  unfolding cards_read
  all_read n memory z =
      let none : lines_fault edition s cards n ≡ 0 =
      elim (ℕ_discrete (lines_fault edition s cards n) 0) [
        | yes e ↦ e
        | no k ↦ absurd (k (sym (part_fault_is n (lines_fault edition s cards n) refl k) ∙ z))
      ] in
      rw (passing_are n n (omega arith) none (λ l. absurd (omega arith)))

  pub refuses :
      (n i e : ℕ) → i < n → lines_fault edition s cards i ≡ 0 → line_fault edition s cards i ≡ e → (e ≡ 0 → ⊥)
      → part_fault edition s cards n ≡ e
  refuses n i e l z q h = part_fault_is n e (first_fault n i e l z q h) h
