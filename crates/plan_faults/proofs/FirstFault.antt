-- The first fault, from the number of clear frames and of those with room.
-- Assumes nothing.
use Prim.Native.Nat.{ℕ, zero, suc, ◌+◌, ◌-◌, ◌≤◌, ◌<◌}
use mathlib.Core.Path.{◌≡◌, sym, ap, ◌∙◌}
use mathlib.Core.Logic.{◌≢◌}
use mathlib.Core.Bool.{Bool, true, false, false≢true}
use mathlib.Core.List.{List}
use native.Mathlib.Omega.{arith}
use native.Mathlib.Nat.{zero-add, add-zero}
use native.Mathlib.Decide.{dec_lt}
use lib.Dec.{eqb}
use lib.ListN.{length}
use borrow.Author.Tests.{eq-eqb, eqb-true}
use Rattle.counting.proofs.Bits.{or_cases, or_first, or_neither}
use Rattle.schedule.specs.Schedule.{cycle_of, Correct}
use Rattle.schedule.specs.Verdict.{no_cycle, shared_card, overfull, valid, shares, judge, judge_from}
use Rattle.schedule.specs.Verdict as theory
use Rattle.schedule.proofs.Exact.{Faultless, judged_no_cycle, judged_shared, judged_overfull, judged_faultless, correct_faultless}
use Rattle.pool_counts.specs.Backlog.{backlog_of}
use Rattle.plan_faults.specs.Faults.{Decided, fault_at, found_in, first_fault}
use Rattle.plan_faults.specs.declared.Found.{Found}
use Rattle.std.specs.Prelude.{Option, None}
use Rattle.plan_faults.proofs.ClearFrames.{no_card_fault}

-- the verdict that says nothing of T and peak
abbrev pub clear : theory.Verdict
clear = valid 0 0

-- frames without a fault are passed over
judged_from :
    (backlog : List ℕ → ℕ → ℕ) (m : ℕ) (cards cycles : List ℕ) (p k i : ℕ) → ((j : ℕ) → i ≤ j → j < i + p → Faultless backlog m cards cycles j)
    → judge_from backlog m cards cycles (p + k) i clear ≡ judge_from backlog m cards cycles k (i + p) clear
judged_from backlog m cards cycles zero k i h = rw (zero-add k, add-zero i)
judged_from backlog m cards cycles (suc p) k i h =
    let more : suc p + k ≡ suc (p + k) = omega arith in
    let on : i + suc p ≡ suc i + p = omega arith in
    rw (more, on)
    (judged_faultless backlog m cards cycles i (judge_from backlog m cards cycles (p + k) (suc i) clear) (h i (omega arith) (omega arith))
    ∙ judged_from backlog m cards cycles p k (suc i) (λ j l g. h j (omega arith) (omega arith)))

module _ {save : Bool} {m : ℕ} {cards cycles : List ℕ} {c r : ℕ} (d : Decided save m cards cycles c r) where
  module _ (j : ℕ) (l : j < c) where
    has_cycle : cycle_of cycles j ≢ 0
    has_cycle e = false≢true (sym (or_first (eqb (cycle_of cycles j) 0) (shares cards cycles j) (d.clear j l)) ∙ eq-eqb (cycle_of cycles j) 0 e)

    alone : shares cards cycles j ≡ false
    alone = or_neither (eqb (cycle_of cycles j) 0) (shares cards cycles j) (d.clear j l)

    faultless : j < r → Faultless (backlog_of save) m cards cycles j
    faultless h = record { a_cycle = has_cycle; alone = alone; pooled = d.roomy j h }

  -- up to frame p no frame has a fault, so that p and the rest decide
  module _ (p : ℕ) (to-c : p ≤ c) (to-r : p ≤ r) where
    from_p : judge_from (backlog_of save) m cards cycles (length cards) 0 clear
        ≡ judge_from (backlog_of save) m cards cycles (length cards - p) p clear
    from_p =
        let whole : p + (length cards - p) ≡ length cards = omega (arith, d.clear_inside) in
        let front = judged_from (backlog_of save) m cards cycles p (length cards - p) 0 (λ j h l. faultless j (omega arith) (omega arith)) in
        rw (whole, zero-add p) at front

    abbrev rest : theory.Verdict
    rest = judge_from (backlog_of save) m cards cycles (length cards - suc p) (suc p) clear

    at_p : p < length cards → judge_from (backlog_of save) m cards cycles (length cards) 0 clear ≡ judge (backlog_of save) m cards cycles p rest
    at_p l =
        let e : length cards - p ≡ suc (length cards - suc p) = omega arith in
        from_p ∙ ap (λ k. judge_from (backlog_of save) m cards cycles k p clear) e

  pub pool_fault : r < c → fault_at r overfull ≡ first_fault save m cards cycles
  unfolding first_fault
  pool_fault l =
      let inside : r < length cards = omega (arith, d.clear_inside) in
      let full = d.overfull_next l in
      sym (ap found_in
      (at_p r (omega arith) (omega arith) inside
      ∙ judged_overfull (backlog_of save) m cards cycles r (rest r (omega arith) (omega arith)) (has_cycle r l) (alone r l) full))

  module _ (h : c ≤ r) where
    pub no_fault : c ≡ length cards → ◌≡◌ {A = Option Found} None (first_fault save m cards cycles)
    unfolding first_fault
    no_fault e =
        let none : length cards - c ≡ 0 = omega arith in
        sym (ap found_in (from_p c (omega arith) h ∙ ap (λ k. judge_from (backlog_of save) m cards cycles k c clear) none))

    module _ (n : c ≢ length cards) where
      inside : c < length cards
      inside = omega (arith, d.clear_inside)

      pub cycle_fault : cycle_of cycles c ≡ 0 → fault_at c no_cycle ≡ first_fault save m cards cycles
      unfolding first_fault
      cycle_fault e =
          sym (ap found_in
          (at_p c (omega arith) h inside ∙ judged_no_cycle (backlog_of save) m cards cycles c (rest c (omega arith) h) e))

      pub has_card_fault : cycle_of cycles c ≢ 0 → fault_at c shared_card ≡ first_fault save m cards cycles
      unfolding first_fault
      has_card_fault e =
          let shared : shares cards cycles c ≡ true =
          or_cases (eqb (cycle_of cycles c) 0) (shares cards cycles c) (d.has_card_fault h inside) (λ z. absurd (e (eqb-true (cycle_of cycles c) 0 z)))
          (λ s. s) in
          sym (ap found_in
          (at_p c (omega arith) h inside ∙ judged_shared (backlog_of save) m cards cycles c (rest c (omega arith) h) e shared))

  -- a correct plan has no fault: all its frames have room
  pub all_roomy : Correct (backlog_of save) m cards cycles → r ≡ length cycles
  all_roomy ok =
      let good = correct_faultless (backlog_of save) m cards cycles ok in
      let no-pool-fault : c ≤ r =
      elim (dec_lt r c) [
        | yes l ↦ absurd (omega (arith, d.overfull_next l, ok.pool_rule r (omega (arith, d.clear_inside))))
        | no l ↦ omega arith
      ] in
      let no-card-left : length cards ≤ c =
      elim (dec_lt c (length cards)) [
        | yes l ↦
            absurd
            (false≢true (sym (no_card_fault cards cycles c (good c l).a_cycle (good c l).alone) ∙ d.has_card_fault no-pool-fault l))
        | no l ↦ omega arith
      ] in
      omega (arith, no-pool-fault, no-card-left, d.roomy_inside, ok.proper.one_each)
