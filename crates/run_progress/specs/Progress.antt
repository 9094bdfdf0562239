-- A run of the dock followed step by step: what is kept beside the dock, and what one step does to it.
-- Assumes nothing.
use Rattle.std.specs.Prelude.{ℕ, ◌≤◌, ◌<◌, ◌≡◌, cond, Option, Some, None, List, [], ◌∷◌, ◌++◌, eqb}
use Rattle.schedule.specs.Dock.{Step as ModelStep, empty_dock, run}
use Rattle.schedule.specs.Drive.{Outcome, complete, unfinished, outcome, peak}
use Rattle.dock.specs.State.{ShowsDock, most_cycles, new_dock}
use Rattle.run_progress.specs.declared.Progress.{Progress}

-- the outcome so far: the cycles needed, once all frames are handed over
abbrev pub outcome_in : Option ℕ → Outcome
outcome_in (Some n) = complete n
outcome_in None = unfinished

-- After these steps from the empty dock: the dock, the outcome so far, and the peak so far.
pub record Tracks (m : ℕ) (cards : List ℕ) (steps : List ModelStep) (p : Progress) (memory : List ℕ) : Type 0 where
  pub shows : ShowsDock m cards (run m cards steps empty_dock) p.dock memory
  pub outcome_is : outcome m cards steps empty_dock ≡ outcome_in p.needed
  pub needed_few : (n : ℕ) → p.needed ≡ Some n → n ≤ (run m cards steps empty_dock).ended
  pub peak_is : p.peak ≡ peak m cards steps empty_dock

-- What one step more does, while the record can count one cycle more.
pub record Tracked (p : Progress) (step : ModelStep) (before : List ℕ) (r : Progress) (after : List ℕ) : Type 0 where
  pub follows :
      (m : ℕ) (cards : List ℕ) (steps : List ModelStep) → Tracks m cards steps p before → (run m cards steps empty_dock).ended < most_cycles
      → Tracks m cards (steps ++ (step ∷ [])) r after

-- the progress of an empty dock; with no frames a run is complete from the start
abbrev pub at_start : ℕ → ℕ → Progress
at_start m frames = record { dock = new_dock m frames; needed = cond (eqb frames 0) (Some 0) None; peak = 0 }
