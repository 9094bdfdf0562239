-- What `plan` answers and what it leaves in the lent buffer, for every ticket and every buffer (document 01, "Rules from document 000" and
-- "Grounds for turning a ticket or call down"). Edge case: a ticket with no frames has an empty plan with T = 0, in any buffer.
-- Assumes nothing.
use Rattle.std.specs.Prelude.{ℕ, ◌≡◌, cond, List, ltb, length}
use Rattle.counting.specs.Count.{written}
use Rattle.ticket.specs.Ticket.{Parsed, accepted, refused}
use Rattle.mode_plans.specs.Plans.{plan_for}
use Rattle.std.specs.Prelude.{Result, Ok, Err}
use Rattle.counting.specs.declared.Cycle.{Cycle}

-- "plan buffer has fewer than L places": 10, after the ticket's own
unfoldable pub plan_of : Parsed → ℕ → Result Cycle ℕ
plan_of (accepted h cards) places =
    cond (ltb places (length cards)) (Err 10) (Ok (record { 0 = (plan_for h.mode h.pool cards).T }))
plan_of (refused k) places = Err k

-- The buffer afterwards: "A plan fills the first L places, and later places keep their content." A refusal changes nothing.
unfoldable pub buffer_after : Parsed → List ℕ → List ℕ
buffer_after (accepted h cards) before =
    cond (ltb (length before) (length cards)) before (written (plan_for h.mode h.pool cards).cycles before)
buffer_after (refused k) before = before

-- What one call did: the answer and the buffer, both equal to the definitions above.
pub record Answered (ticket : Parsed) (before after : List ℕ) (r : Result Cycle ℕ) : Type 0 where
  pub answer : r ≡ plan_of ticket (length before)
  pub buffer : after ≡ buffer_after ticket before
