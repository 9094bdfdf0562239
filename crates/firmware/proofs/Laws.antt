-- What the calls answer, from the answers of the calls that they make.
-- Assumes nothing.
use Prim.Native.Nat.{ℕ}
use mathlib.Core.Path.{◌≡◌, refl, ap, ◌∙◌}
use mathlib.Core.List.{List}
use lib.ListN.{length}
use Rattle.ticket.specs.Ticket.{parse, refusal_of, counts_of}
use Rattle.planner.specs.Plan.{plan_of, buffer_after}
use Rattle.planner.specs.Numbers.{numbers_of}
use Rattle.planner.specs.Demand3.{Demand3}
use Rattle.std.specs.Prelude.{Result}
use Rattle.counting.specs.declared.Cycle.{Cycle}
use Rattle.join.specs.Join.{join_of, answer_of, buffer_after as joined_into}
use Rattle.join.specs.Numbers.{numbers_of as numbers_of_join}
use Rattle.join.specs.Showing.{Showing}
use Rattle.hub.specs.Fullest.{Gathering}
use Rattle.hub.specs.Gather.{answer_for as gathered_in, buffer_after as gathered_into}
use Rattle.hub.specs.Numbers.{numbers_of as numbers_of_hub}
use Rattle.checker.specs.Check.{check_of}
use Rattle.checker.specs.Numbers.{numbers_of as numbers_of_check}
use Rattle.checker.specs.Exact.{Exact}
use Rattle.checker.specs.declared.Verdict.{Verdict}
use Rattle.plain_answers.specs.Answers.{counts_answer, plan_answer, join_answer, hub_answer, check_answer}
use Rattle.plain_answers.specs.declared.plans.PlanAnswer.{PlanAnswer}
use Rattle.plain_answers.specs.declared.joins.JoinAnswer.{JoinAnswer as PlainJoin}
use Rattle.plain_answers.specs.declared.hubs.HubAnswer.{HubAnswer as PlainHub}
use Rattle.plain_answers.specs.declared.checks.CheckAnswer.{CheckAnswer}

-- the counts of a ticket, with its number beside them
pub counted :
    (t : List ℕ) (number : ℕ) (frames : List ℕ) → number ≡ refusal_of (parse t) → frames ≡ counts_of (parse t)
    → record { refusal = number; frames = frames } ≡ counts_answer (parse t)
counted t number frames e f = rw (e, f) refl

-- the contract of `dockplan_plan` from that of `planner::plan`
module _ (t before after : List ℕ) (a : Result Cycle ℕ) (r : PlanAnswer) (e : r ≡ plan_answer (numbers_of a)) where
  pub planned :
      (a ≡ plan_of (parse t) (length before))
      × ((after ≡ buffer_after (parse t) before)
      × ((numbers_of a ≡ numbers_of (plan_of (parse t) (length before))) × Demand3 t (numbers_of a).refusal (numbers_of a).cycles.0 after))
      → (r ≡ plan_answer (numbers_of (plan_of (parse t) (length before))))
      × ((after ≡ buffer_after (parse t) before) × Demand3 t r.refusal r.cycles.0 after)
  planned p = (e ∙ ap plan_answer p.1.1.0, (p.1.0, rw e p.1.1.1))

-- the contract of `dockplan_join` from that of `join::join`
module _ (first second before after : List ℕ) (a : Result ℕ ℕ) (r : PlainJoin) (e : r ≡ join_answer (numbers_of_join a)) where
  pub joined :
      (a ≡ answer_of (join_of first second) (length before))
      × ((after ≡ joined_into (join_of first second) before)
      × ((numbers_of_join a ≡ numbers_of_join (answer_of (join_of first second) (length before)))
      × Showing first second (numbers_of_join a).refusal (numbers_of_join a).bytes after))
      → (r ≡ join_answer (numbers_of_join (answer_of (join_of first second) (length before))))
      × ((after ≡ joined_into (join_of first second) before) × Showing first second r.refusal r.bytes after)
  joined p = (e ∙ ap join_answer p.1.1.0, (p.1.0, rw e p.1.1.1))

-- the contract of `dockplan_hub` from that of `hub::gather`
module _ (chosen cameras before after : List ℕ) (a : Result ℕ ℕ) (r : PlainHub) (e : r ≡ hub_answer (numbers_of_hub a)) where
  pub gathered :
      (a ≡ gathered_in chosen cameras (length before))
      × ((after ≡ gathered_into chosen cameras before)
      × ((numbers_of_hub a ≡ numbers_of_hub (gathered_in chosen cameras (length before)))
      × Gathering chosen (numbers_of_hub a).refusal (numbers_of_hub a).frames after))
      → (r ≡ hub_answer (numbers_of_hub (gathered_in chosen cameras (length before))))
      × ((after ≡ gathered_into chosen cameras before) × Gathering chosen r.refusal r.frames after)
  gathered p = (e ∙ ap hub_answer p.1.1.0, (p.1.0, rw e p.1.1.1))

-- the contract of `dockplan_check` from that of `checker::check`
module _ (t cycles : List ℕ) (v : Result Verdict ℕ) (r : CheckAnswer) (e : r ≡ check_answer (numbers_of_check v)) where
  pub checked :
      (v ≡ check_of (parse t) cycles)
      × ((numbers_of_check v ≡ numbers_of_check (check_of (parse t) cycles))
      × Exact t cycles (numbers_of_check v).verdict (numbers_of_check v).position.0 (numbers_of_check v).peak)
      → (r ≡ check_answer (numbers_of_check (check_of (parse t) cycles))) × Exact t cycles r.verdict r.position.0 r.peak
  checked p = (e ∙ ap check_answer p.1.0, rw e p.1.1)
