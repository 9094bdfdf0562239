-- The verdict on the whole plan, from the first fault, T and the peak.
-- Assumes nothing.
use Prim.Native.Nat.{ℕ, ◌≤◌}
use mathlib.Core.Path.{◌≡◌, refl, sym, ap, ◌∙◌}
use mathlib.Core.Logic.{⊎_elim}
use mathlib.Core.Bool.{Bool, true, false}
use mathlib.Core.List.{List}
use native.Mathlib.Omega.{arith}
use lib.Dec.{leb}
use lib.ListN.{length}
use borrow.Author.Tests.{leb-true}
use Rattle.counting.proofs.Lists.{le_largest}
use Rattle.schedule.specs.Schedule.{cycles_in, Correct}
use Rattle.schedule.specs.Drive.{buffers_needed}
use Rattle.schedule.specs.Verdict.{Fault, no_cycle, shared_card, overfull, valid, judge_from, verdict_on_read, verdict_on_save}
use Rattle.schedule.proofs.Main.{peak_closed}
use Rattle.schedule.proofs.Exact.{valid_correct, otherwise}
use Rattle.header.specs.Limits.{max_frames}
use Rattle.pool_counts.specs.Backlog.{backlog_of}
use Rattle.pool_counts.specs.Pools.{peak_of}
use Rattle.pool_table.specs.Table.{Low}
use Rattle.plan_faults.specs.Faults.{Checking, Decided, fault_at, found_in, first_fault}
use Rattle.plan_faults.specs.Searches.{LowCycles}
use Rattle.plan_faults.specs.declared.Found.{Found}
use Rattle.std.specs.Prelude.{Option, None}
use Rattle.plan_faults.proofs.FirstFault.{clear, all_roomy}
use Rattle.checker.specs.Check.{at_fault, answer_of, verdict_on}
use Rattle.checker.specs.Completed.{completed}

-- a fault that is found is the verdict, whatever T and the peak
fault_as : (T peak i : ℕ) (f : Fault) → completed (fault_at i f) T peak ≡ at_fault i f
fault_as T peak i no_cycle = refl
fault_as T peak i shared_card = refl
fault_as T peak i overfull = refl

-- the whole list: T and the peak where there is no fault
completed_verdict :
    (save : Bool) (m : ℕ) (cards cycles : List ℕ) (r : Option Found) (T peak T' peak' : ℕ) → length cycles ≡ length cards
    → r ≡ first_fault save m cards cycles → (Correct (backlog_of save) m cards cycles → (T ≡ T') × (peak ≡ peak'))
    → completed r T peak ≡ answer_of (judge_from (backlog_of save) m cards cycles (length cards) 0 (valid T' peak'))
unfolding first_fault
completed_verdict save m cards cycles r T peak T' peak' n r-is same =
    ⊎_elim
    (λ e.
    let q : r ≡ fault_at e.0 e.1 = r-is ∙ ap found_in e.2 in
    rw (q, e.3) (fault_as T peak e.0 e.1))
    (λ e.
    let q : r ≡ None = r-is ∙ ap found_in e.0 in
    let s = same (valid_correct (backlog_of save) m cards cycles clear 0 0 n e.0) in
    rw (q, e.1, s.0, s.1))
    (otherwise (backlog_of save) m cards cycles (length cards) 0 clear (valid T' peak'))

module _ {cards cycles : List ℕ} (f : Checking cards cycles) where
  pub few_cycles : length cycles ≤ max_frames
  few_cycles = omega (arith, f.same_length, f.few)

  module _ {top : ℕ} (top-is : top ≡ cycles_in cycles) where
    -- a plan with no cycle over 4,096
    module _ (e : leb top max_frames ≡ true) where
      up_to_limit : top ≤ max_frames
      up_to_limit = leb-true top max_frames e

      pub low_plan : Low cycles top
      low_plan = record { few = few_cycles; top_low = up_to_limit; up_to_top = λ i h. omega (arith, top-is, le_largest cycles i) }

      pub low_cycles : LowCycles cycles
      low_cycles = record { each = λ i h. omega (arith, top-is, up_to_limit, le_largest cycles i) }

    -- the first fault, or T and the peak: a save has none, a read's is that of its run
    pub judged :
        (save : Bool) {m : ℕ} {v : Option Found} {c r p : ℕ} → Decided save m cards cycles c r → v ≡ first_fault save m cards cycles
        → (r ≡ length cycles → p ≡ peak_of save cycles) → completed v top p ≡ answer_of (verdict_on save m cards cycles)
    unfolding verdict_on_read verdict_on_save
    judged true {m} {v} {p = p} d v-is p-is =
        completed_verdict true m cards cycles v top p (cycles_in cycles) 0 f.same_length v-is (λ ok. (top-is, p-is (all_roomy d ok)))
    judged false {m} {v} {p = p} d v-is p-is =
        completed_verdict false m cards cycles v top p (cycles_in cycles) (buffers_needed cards cycles) f.same_length v-is
        (λ ok. (top-is, p-is (all_roomy d ok) ∙ sym (peak_closed cards cycles ok.proper)))
