-- Demand 3 about a call of `plan`, from its answer and the buffer that it leaves.
-- Assumes nothing.
use Prim.Native.Nat.{ℕ, ◌≤◌}
use mathlib.Core.Path.{◌≡◌, refl, ap}
use mathlib.Core.Bool.{false}
use mathlib.Core.List.{List}
use native.Mathlib.Omega.{arith}
use lib.Dec.{ltb}
use lib.ListN.{length, take, drop}
use lib.Seq.{take_at}
use borrow.Author.Tests.{ltb-true}
use Rattle.schedule.specs.Greedy.{Plan}
use Rattle.schedule.specs.Demand.{SaveDemand, ReadDemand}
use Rattle.counting.proofs.Bits.{by_cases}
use Rattle.schedule.proofs.Main.{save_demand, read_demand}
use Rattle.header.specs.declared.Header.{Header}
use Rattle.ticket.specs.Ticket.{accepted, parse}
use Rattle.ticket.proofs.Main.{accepted_pool}
use Rattle.planner.specs.Numbers.{numbers_of}
use Rattle.mode_plans.specs.Plans.{plan_for}
use Rattle.mode_plans.proofs.Plans.{plan_read, plan_save, plan_length}
use Rattle.planner.specs.Plan.{plan_of, buffer_after, Answered}
use Rattle.planner.specs.Demand3.{Demand3}
use Rattle.std.specs.Prelude.{Result}
use Rattle.counting.specs.declared.Cycle.{Cycle}

-- an accepted ticket, and a buffer with room
module _
    (h : Header) (cards before after : List ℕ) (r : Result Cycle ℕ) (a : Answered (accepted h cards) before after r)
    (room : length cards ≤ length after) (pool : 1 ≤ h.pool) where
  abbrev plan : Plan
  plan = plan_for h.mode h.pool cards

  has_room : ltb (length before) (length cards) ≡ false
  unfolding buffer_after
  has_room =
      by_cases (ltb (length before) (length cards))
      (λ e. let b : after ≡ before = rw e at a.buffer in absurd (omega (arith, ltb-true (length before) (length cards) e, ap length b)))
      (λ e. e)

  answers_T : ((numbers_of r).refusal ≡ 0) × ((numbers_of r).cycles.0 ≡ plan.T)
  unfolding plan_of
  answers_T = rw (a.answer, has_room) (refl, refl)

  holds_plan : take (length cards) after ≡ plan.cycles
  unfolding buffer_after
  holds_plan =
      rw (a.buffer, has_room)
      (take_at plan.cycles (drop (length plan.cycles) before) (length cards) (plan_length h.mode h.pool cards pool))

  -- what is true of the plan is true of the buffer's front and of the T answered
  so_of_call :
      (P : List ℕ → ℕ → Type 0) → P plan.cycles plan.T
      → ((numbers_of r).refusal ≡ 0) × P (take (length cards) after) (numbers_of r).cycles.0
  so_of_call P p = (answers_T.0, rw (answers_T.1, holds_plan) p)

module _ (t before after : List ℕ) (r : Result Cycle ℕ) (a : Answered (parse t) before after r) where
  pub demand_3 : Demand3 t (numbers_of r).refusal (numbers_of r).cycles.0 after
  demand_3 =
      record {
        dock_range = accepted_pool t;
        read_plan = λ h cards e mode room.
            let pool = (accepted_pool t h cards e).0 in
            so_of_call h cards before after r (rw e at a) room pool (ReadDemand h.pool cards)
            (rw (plan_read h.mode h.pool cards mode) (read_demand h.pool cards pool));
        save_plan = λ h cards e mode room.
            let pool = (accepted_pool t h cards e).0 in
            so_of_call h cards before after r (rw e at a) room pool (SaveDemand h.pool cards)
            (rw (plan_save h.mode h.pool cards mode) (save_demand h.pool cards pool));
      }

  -- the whole contract of `plan`
  pub contract : (r ≡ plan_of (parse t) (length before))
      × ((after ≡ buffer_after (parse t) before)
      × ((numbers_of r ≡ numbers_of (plan_of (parse t) (length before))) × Demand3 t (numbers_of r).refusal (numbers_of r).cycles.0 after))
  contract = (a.answer, (a.buffer, (ap numbers_of a.answer, demand_3)))
