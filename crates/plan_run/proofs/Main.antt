-- The public theorems about a plan's run: the read plan of a ticket, run on the dock of its list and pool; and the peak of every plan's run.
-- The contract of `run_plan` (src/lib.rt) says that its answer is `ran_of`, for every ticket and plan.
-- Assumes nothing.
use Prim.Native.Nat.{ℕ, ◌<◌}
use mathlib.Core.Path.{◌≡◌, ◌∙◌}
use mathlib.Core.List.{List}
use lib.ListN.{length}
use Rattle.schedule.specs.Schedule.{CorrectRead}
use Rattle.schedule.specs.Greedy.{lazy_prefetching}
use Rattle.schedule.specs.Dock.{empty_dock}
use Rattle.schedule.specs.Drive.{steps_of, buffers_needed, BreaksAtEnd}
use Rattle.schedule.proofs.Main.{peak_same, peak_above_pool}
use Rattle.header.specs.declared.Header.{Header}
use Rattle.ticket.specs.Ticket.{accepted, parse}
use Rattle.plan_run.specs.Numbers.{numbers_of}
use Rattle.plan_run.specs.Run.{ran_of, Finished}
use Rattle.plan_run.proofs.Own as own

-- The read plan of every accepted ticket's list is run to its end: it breaks no rule, hands over everything in exactly T cycles, and its
-- peak is within the pool.
pub own_plan_runs :
    (t : List ℕ) (h : Header) (cards : List ℕ) → parse t ≡ accepted h cards
    → Finished h.pool (length cards) (lazy_prefetching h.pool cards).T (numbers_of (ran_of (parse t) (lazy_prefetching h.pool cards).cycles))
own_plan_runs = own.own_finished

-- The peak of a run (request 2026-05), for every accepted ticket and every plan of L cycles.
module _ (t : List ℕ) (h : Header) (cards cycles : List ℕ) (e : parse t ≡ accepted h cards) where
  -- It is above the pool just where the run broke off at an end of a cycle, which found more frames held than there are buffers.
  pub run_above_pool :
      length cycles ≡ length cards
      → (h.pool < (numbers_of (ran_of (parse t) cycles)).peak → BreaksAtEnd h.pool cards (steps_of cycles) empty_dock)
      × (BreaksAtEnd h.pool cards (steps_of cycles) empty_dock → h.pool < (numbers_of (ran_of (parse t) cycles)).peak)
  run_above_pool l = rw (own.run_peak t h cards cycles e l) (peak_above_pool h.pool cards (steps_of cycles))

  -- The run of a correct read plan has the peak that `check` answers: the peak on a dock with a buffer for every frame.
  pub run_peak_needed : CorrectRead h.pool cards cycles → (numbers_of (ran_of (parse t) cycles)).peak ≡ buffers_needed cards cycles
  run_peak_needed ok = own.run_peak t h cards cycles e ok.proper.one_each ∙ peak_same cards cycles h.pool ok
