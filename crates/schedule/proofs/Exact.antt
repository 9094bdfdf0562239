-- The verdict is exact: a plan is called valid just when it is a correct schedule, and else the lowest position at fault is named.
-- Assumes nothing.
use Prim.Native.Nat.{ℕ, zero, suc, ◌+◌, ◌≤◌, ◌<◌}
use mathlib.Core.Path.{◌≡◌, refl, sym, ◌∙◌}
use mathlib.Core.Logic.{◌≢◌, ◌⊎◌, inl, inr, ⊎_elim}
use mathlib.Core.Bool.{Bool, true, false, ◌&&◌, false≢true}
use mathlib.Core.List.{List}
use native.Mathlib.Omega.{arith}
use native.Mathlib.Decide.{dec_lt, ℕ_discrete}
use lib.Dec.{eqb}
use lib.ListN.{length}
use borrow.Author.Tests.{eq-eqb, ne_eqb, eqb-true, lt-ltb, le-ltb, lt-leb, le-leb}
use Rattle.counting.specs.Count.{bit, how_many}
use Rattle.counting.specs.Frames.{card_of}
use Rattle.schedule.specs.Schedule.{cycle_of, Correct}
use Rattle.schedule.specs.Verdict.{Fault, Verdict, valid, faulty, no_cycle, shared_card, overfull, shares, judge, judge_from}
use Rattle.counting.proofs.Bits.{by_cases, and_left, and_right, bit_mono}
use Rattle.counting.proofs.Sums.{sum_mono, sum_zero, sum_term_le}

module _ (backlog : List ℕ → ℕ → ℕ) (m : ℕ) (cards cycles : List ℕ) where
  -- frame i has none of the faults
  pub record Faultless (i : ℕ) : Type 0 where
    pub a_cycle : cycle_of cycles i ≢ 0
    pub alone : shares cards cycles i ≡ false
    pub pooled : backlog cycles i < m

  module _ (i : ℕ) (v : Verdict) where
    pub judged_no_cycle : cycle_of cycles i ≡ 0 → judge backlog m cards cycles i v ≡ faulty i no_cycle
    judged_no_cycle e = rw (eq-eqb (cycle_of cycles i) 0 e)

    pub judged_shared : cycle_of cycles i ≢ 0 → shares cards cycles i ≡ true → judge backlog m cards cycles i v ≡ faulty i shared_card
    judged_shared n s = rw (ne_eqb (cycle_of cycles i) 0 n, s)

    pub judged_overfull :
        cycle_of cycles i ≢ 0 → shares cards cycles i ≡ false → m ≤ backlog cycles i → judge backlog m cards cycles i v ≡ faulty i overfull
    judged_overfull n s l = rw (ne_eqb (cycle_of cycles i) 0 n, s, le-leb m (backlog cycles i) l)

    pub judged_faultless : Faultless i → judge backlog m cards cycles i v ≡ v
    judged_faultless f = rw (ne_eqb (cycle_of cycles i) 0 f.a_cycle, f.alone, lt-leb m (backlog cycles i) f.pooled)

  -- the four cases of a frame
  pub by_fault :
      {P : Type 0} (i : ℕ) → (cycle_of cycles i ≡ 0 → P) → (cycle_of cycles i ≢ 0 → shares cards cycles i ≡ true → P)
      → (cycle_of cycles i ≢ 0 → shares cards cycles i ≡ false → m ≤ backlog cycles i → P) → (Faultless i → P) → P
  by_fault i zeroed shared full none =
      elim (ℕ_discrete (cycle_of cycles i) 0) [
        | yes e ↦ zeroed e
        | no n ↦
            by_cases (shares cards cycles i)
            (λ s. shared n s)
            (λ s.
            elim (dec_lt (backlog cycles i) m) [
              | yes l ↦ none (record { a_cycle = n; alone = s; pooled = l })
              | no l ↦ full n s (omega arith)
            ])
      ]

  -- a verdict of valid has found every frame faultless
  pub not_faulty : (v : Verdict) (i : ℕ) (f : Fault) (t p : ℕ) → v ≡ faulty i f → v ≡ valid t p → ⊥
  not_faulty v i f t p a b = let z : ◌≡◌ {A = ℕ} 0 1 = cc in omega arith

  frame_faultless : (i : ℕ) (v : Verdict) (t p : ℕ) → judge backlog m cards cycles i v ≡ valid t p → Faultless i
  frame_faultless i v t p e =
      by_fault i
      (λ z. absurd (not_faulty _ i no_cycle t p (judged_no_cycle i v z) e))
      (λ n s. absurd (not_faulty _ i shared_card t p (judged_shared i v n s) e))
      (λ n s l. absurd (not_faulty _ i overfull t p (judged_overfull i v n s l) e))
      (λ f. f)

  pub all_faultless :
      (k i : ℕ) (v : Verdict) (t p : ℕ) → judge_from backlog m cards cycles k i v ≡ valid t p → (j : ℕ) → i ≤ j → j < i + k → Faultless j
  all_faultless zero i v t p e j l h = absurd (omega arith)
  all_faultless (suc k) i v t p e j l h =
      let f : Faultless i = frame_faultless i (judge_from backlog m cards cycles k (suc i) v) t p e in
      elim (ℕ_discrete j i) [
        | yes q ↦ rw q f
        | no q ↦
            all_faultless k (suc i) v t p (sym (judged_faultless i (judge_from backlog m cards cycles k (suc i) v) f) ∙ e) j (omega arith) (omega arith)
      ]

  pub judged_all :
      (k i : ℕ) (v : Verdict) → ((j : ℕ) → i ≤ j → j < i + k → Faultless j) → judge_from backlog m cards cycles k i v ≡ v
  judged_all zero i v h = refl
  judged_all (suc k) i v h =
      judged_faultless i (judge_from backlog m cards cycles k (suc i) v) (h i (omega arith) (omega arith))
      ∙ judged_all k (suc i) v (λ j l g. h j (omega arith) (omega arith))

  -- no earlier frame of the card has the cycle, said in two ways
  abbrev same : ℕ → ℕ → Bool
  same i j = eqb (card_of cards j) (card_of cards i) && eqb (cycle_of cycles j) (cycle_of cycles i)

  pub alone_apart :
      (i j : ℕ) → i < j → shares cards cycles j ≡ false → card_of cards i ≡ card_of cards j → cycle_of cycles i ≡ cycle_of cycles j → ⊥
  alone_apart i j l s c e =
      let one : bit (same j i) ≡ 1 = rw (eq-eqb (card_of cards i) (card_of cards j) c, eq-eqb (cycle_of cycles i) (cycle_of cycles j) e) in
      let some : 0 < how_many j (same j) = omega (arith, sum_term_le j (λ x. bit (same j x)) i l) in
      false≢true (sym s ∙ lt-ltb 0 (how_many j (same j)) some)

  pub apart_alone :
      (j : ℕ) → ((i : ℕ) → i < j → card_of cards i ≡ card_of cards j → cycle_of cycles i ≡ cycle_of cycles j → ⊥)
      → shares cards cycles j ≡ false
  apart_alone j h =
      le-ltb 0 (how_many j (same j))
      (omega (
        arith,
        sum_mono j (λ i. bit (same j i)) (λ i. 0)
            (λ i l.
            bit_mono (same j i) false
            (λ e.
            absurd (h i l
            (eqb-true _ _ (and_left (eqb (card_of cards i) (card_of cards j)) (eqb (cycle_of cycles i) (cycle_of cycles j)) e))
            (eqb-true _ _ (and_right (eqb (card_of cards i) (card_of cards j)) (eqb (cycle_of cycles i) (cycle_of cycles j)) e))))),
        sum_zero j,
      ))

  -- faultless throughout is correct, and the other way round
  pub faultless_correct : length cycles ≡ length cards → ((i : ℕ) → i < length cards → Faultless i) → Correct backlog m cards cycles
  faultless_correct e h =
      record {
        proper = record {
          one_each = e;
          from_one = λ i l. omega (arith, (h i l).a_cycle);
          card_rule = λ i j l k. alone_apart i j l (h j k).alone;
        };
        pool_rule = λ i l. (h i l).pooled;
      }

  pub correct_faultless : Correct backlog m cards cycles → (i : ℕ) → i < length cards → Faultless i
  correct_faultless ok i l =
      record {
        a_cycle = λ e. omega (arith, ok.proper.from_one i l);
        alone = apart_alone i (λ j k. ok.proper.card_rule j i k l);
        pooled = ok.pool_rule i l;
      }

  -- the verdict on a whole plan
  pub valid_correct :
      (v : Verdict) (t p : ℕ) → length cycles ≡ length cards → judge_from backlog m cards cycles (length cards) 0 v ≡ valid t p
      → Correct backlog m cards cycles
  valid_correct v t p n e = faultless_correct n (λ i l. all_faultless (length cards) 0 v t p e i (omega arith) (omega arith))

  pub correct_valid : (v : Verdict) → Correct backlog m cards cycles → judge_from backlog m cards cycles (length cards) 0 v ≡ v
  correct_valid v ok = judged_all (length cards) 0 v (λ i l h. correct_faultless ok i (omega arith))

  -- what is said where there is no fault does not matter where there is one
  pub otherwise :
      (k i : ℕ) (v w : Verdict)
      → ((j : ℕ) × (f : Fault) × (judge_from backlog m cards cycles k i v ≡ faulty j f) × (judge_from backlog m cards cycles k i w ≡ faulty j f))
      ⊎ ((judge_from backlog m cards cycles k i v ≡ v) × (judge_from backlog m cards cycles k i w ≡ w))
  otherwise zero i v w = inr (refl, refl)
  otherwise (suc k) i v w =
      let v' : Verdict = judge_from backlog m cards cycles k (suc i) v in
      let w' : Verdict = judge_from backlog m cards cycles k (suc i) w in
      by_fault i
      (λ z. inl (i, no_cycle, judged_no_cycle i v' z, judged_no_cycle i w' z))
      (λ n s. inl (i, shared_card, judged_shared i v' n s, judged_shared i w' n s))
      (λ n s l. inl (i, overfull, judged_overfull i v' n s l, judged_overfull i w' n s l))
      (λ f.
      let a : judge backlog m cards cycles i v' ≡ v' = judged_faultless i v' f in
      let b : judge backlog m cards cycles i w' ≡ w' = judged_faultless i w' f in
      ⊎_elim (λ e. inl (e.0, e.1, a ∙ e.2, b ∙ e.3)) (λ e. inr (a ∙ e.0, b ∙ e.1)) (otherwise k (suc i) v w))
