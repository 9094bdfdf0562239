-- The cycles of a plan, made one after the other: what each does to the progress of a run, and what the run then answers.
-- Assumes nothing.
use Rattle.std.specs.Prelude.{ℕ, ◌-◌, ◌≤◌, ◌<◌, Option, None, Some, List, ◌++◌, length}
use Rattle.schedule.specs.Schedule.{cycle_of}
use Rattle.schedule.specs.Dock.{Step as ModelStep, empty_dock, run}
use Rattle.schedule.specs.Drive.{reads_of, steps_to}
use Rattle.plan_run.specs.Run.{needed_of}
use Rattle.plan_run.specs.declared.Run.{Run}
use Rattle.run_progress.specs.declared.Progress.{Progress}
use Rattle.run_progress.specs.Progress.{Tracks, outcome_in}

-- the last cycle that a plan can have: a plan's cycles have 16 bits
abbrev pub last_cycle : ℕ
last_cycle = 65535

-- the steps of a plan before cycle c, and of cycle c the reads of the first k frames
abbrev pub reads_to : List ℕ → ℕ → ℕ → List ModelStep
reads_to cycles c k = steps_to cycles (c - 1) ++ reads_of cycles c k

-- After these steps, in which at most t cycles end.
pub record Reached (m : ℕ) (cards : List ℕ) (steps : List ModelStep) (t : ℕ) (p : Progress) (memory : List ℕ) : Type 0 where
  pub tracks : Tracks m cards steps p memory
  pub ends : (run m cards steps empty_dock).ended ≤ t

-- The reads of cycle c, for whichever list and pool the cycles before it have passed.
pub record ReadsMade (cycles : List ℕ) (c k : ℕ) (p : Progress) (before : List ℕ) (r : Progress) (after : List ℕ) : Type 0 where
  pub follows :
      (m : ℕ) (cards : List ℕ) → Reached m cards (steps_to cycles (c - 1)) (c - 1) p before → Reached m cards (reads_to cycles c k) (c - 1) r after

-- The cycles after t and up to u.
pub record CyclesMade (cycles : List ℕ) (t u : ℕ) (p : Progress) (before : List ℕ) (r : Progress) (after : List ℕ) : Type 0 where
  pub follows : (m : ℕ) (cards : List ℕ) → Reached m cards (steps_to cycles t) t p before → Reached m cards (steps_to cycles u) u r after

-- `next` is the first cycle after t that a frame has, if one has any.
abbrev pub Next : List ℕ → ℕ → Option ℕ → Type 0
Next cycles t None = (i : ℕ) → i < length cycles → cycle_of cycles i ≤ t
Next cycles t (Some n) = (t < n) × ((i : ℕ) → i < length cycles → t < cycle_of cycles i → n ≤ cycle_of cycles i)

-- what a run answers
abbrev pub answered : Progress → Run
answered p =
    record {
      broken = p.dock.broken;
      delivered = p.dock.delivered;
      ended = record { 0 = p.dock.ended };
      needed = needed_of (outcome_in p.needed);
      peak = p.peak;
    }
