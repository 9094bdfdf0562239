-- A plan's run on the dock (document 01, "The dock"): what `run_plan` answers, for every ticket and every plan.
-- Assumes nothing.
use Rattle.std.specs.Prelude.{ℕ, ◌≤◌, ◌≡◌, true, false, cond, Option, None, Some, Result, Ok, Err, List, eqb, length}
use Rattle.counting.specs.declared.Cycle.{Cycle}
use Rattle.schedule.specs.Dock.{empty_dock, run}
use Rattle.schedule.specs.Drive.{complete, unfinished, Outcome, outcome, peak, steps_of}
use Rattle.ticket.specs.Ticket.{Parsed, accepted, refused}
use Rattle.plan_run.specs.Numbers.{Numbers}
use Rattle.plan_run.specs.declared.Run.{Run}

-- the cycles that a run needed, none where it is unfinished: its outcome in the code's words
abbrev pub needed_of : Outcome → Option Cycle
needed_of (complete n) = Some (record { 0 = n })
needed_of unfinished = None

-- the run of a plan's list of steps from the empty dock
abbrev pub run_of : ℕ → List ℕ → List ℕ → Run
run_of m cards cycles =
    record {
      broken = (run m cards (steps_of cycles) empty_dock).broken;
      delivered = (run m cards (steps_of cycles) empty_dock).delivered;
      ended = record { 0 = (run m cards (steps_of cycles) empty_dock).ended };
      needed = needed_of (outcome m cards (steps_of cycles) empty_dock);
      peak = peak m cards (steps_of cycles) empty_dock;
    }

-- The ticket's own refusal, then 11 for a plan that has not exactly L cycles; otherwise the run.
unfoldable pub ran_of : Parsed → List ℕ → Result Run ℕ
ran_of (accepted h cards) cycles = cond (eqb (length cycles) (length cards)) (Ok (run_of h.pool cards cycles)) (Err 11)
ran_of (refused k) cycles = Err k

-- What the numbers of an answer say of a plan that does what demand 3 asks of a read plan of T cycles, for a pool of m and so many frames: it
-- breaks no rule, hands over everything in exactly T cycles, and never holds more than the pool right after the reads of a cycle.
pub record Finished (m frames T : ℕ) (n : Numbers) : Type 0 where
  pub not_refused : n.refusal ≡ 0
  pub breaks_no_rule : n.broken ≡ false
  pub delivers_all : (n.complete ≡ true) × (n.delivered ≡ frames)
  pub needs_T : n.needed.0 ≡ T
  pub within_pool : n.peak ≤ m
