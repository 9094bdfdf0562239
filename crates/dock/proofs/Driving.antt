-- Calls of `drive`: the answer to one call, one call after the other, and the places past the list.
-- Assumes nothing.
use Prim.Native.Nat.{ℕ, ◌≤◌, ◌<◌}
use mathlib.Core.Path.{◌≡◌, refl}
use mathlib.Core.List.{List, [], ◌∷◌}
use native.Mathlib.Omega.{arith}
use lib.ListN.{length}
use Rattle.std.specs.Prelude.{Result, Ok, Err}
use Rattle.std.specs.Result.{result_unwrap_or}
use borrow.Author.Tests.{lt-ltb, le-ltb}
use Rattle.schedule.specs.Dock.{empty_dock, run, Dock as ModelDock, Step as ModelStep}
use Rattle.schedule.specs.Dock as model
use Rattle.schedule.proofs.Outcome.{run_append}
use Rattle.refusals.specs.Numbers.{told}
use Rattle.refusals.specs.declared.Refusal.{Refusal}
use Rattle.dock.specs.State.{ShowsDock, step_of}
use Rattle.dock.specs.Drive.{record_after, bytes_after, drive_of, memory_driven, dock_after, Follows, Driving, begin, next}
use Rattle.dock.specs.Parts.{Advanced}
use Rattle.dock.specs.declared.Dock.{Dock}
use Rattle.dock.specs.declared.Step.{Step}
use Rattle.dock.proofs.Following.{step_shows}

-- the dock after a call is the same in the code's words, where a refusal is an enum
pub dock_told : (dock : Dock) (r : Result Dock Refusal) → result_unwrap_or r dock ≡ dock_after dock (told r)
dock_told dock (Ok d) = refl
dock_told dock (Err e) = refl

module _ (dock : Dock) (memory : List ℕ) (step : Step) where
  short_answer : length memory < dock.frames
      → (Err 10 ≡ drive_of dock memory step) × (memory ≡ memory_driven dock memory step)
  unfolding drive_of memory_driven
  short_answer l = rw (lt-ltb (length memory) dock.frames l) (refl, refl)

  long_answer : dock.frames ≤ length memory
      → (drive_of dock memory step ≡ Ok (record_after dock memory step))
      × (memory_driven dock memory step ≡ bytes_after dock memory step)
  unfolding drive_of memory_driven
  long_answer l = rw (le-ltb (length memory) dock.frames l) (refl, refl)

  -- what `drive` answers follows the model
  driven_shows : (m : ℕ) (cards : List ℕ) (d : ModelDock) → ShowsDock m cards d dock memory
      → (drive_of dock memory step ≡ Ok (dock_after dock (drive_of dock memory step)))
      × ShowsDock m cards (model.step m cards (step_of step) d) (dock_after dock (drive_of dock memory step)) (memory_driven dock memory step)
  driven_shows m cards d s =
      let long = long_answer (omega (arith, s.frames, s.room)) in
      rw (long.0, long.1) (refl, step_shows s step)

  -- the three clauses of `drive`
  abbrev pub Drove : Result Dock ℕ → List ℕ → Type 0
  Drove r after = (r ≡ drive_of dock memory step) × ((after ≡ memory_driven dock memory step) × Follows dock step memory r after)

  contract : (r : Result Dock ℕ) (after : List ℕ) → r ≡ drive_of dock memory step → after ≡ memory_driven dock memory step → Drove r after
  contract r after e f = (e, (f, rw (e, f) (record { follows = driven_shows })))

  pub memory_short : length memory < dock.frames → Drove (Err 10) memory
  memory_short l = let short = short_answer l in contract _ _ short.0 short.1

  pub driven : dock.frames ≤ length memory → (r : Dock) (after : List ℕ) → Advanced dock step memory r after
      → Drove (Ok r) after
  driven l r after a =
      let long = long_answer l in
      contract _ _ (rw (long.0, a.dock_is)) (rw long.1 a.memory_is)

pub driving_shows : (m : ℕ) (cards : List ℕ) (steps : List ModelStep) (dock : Dock) (memory : List ℕ)
    → Driving m cards steps dock memory → ShowsDock m cards (run m cards steps empty_dock) dock memory
unfolding run
driving_shows m cards steps dock memory (begin _ _ s) = s
driving_shows m cards steps dock memory (next earlier d before a v) =
    rw (run_append m cards earlier (step_of a ∷ []) empty_dock)
    (driven_shows d before a m cards (run m cards earlier empty_dock) (driving_shows m cards earlier d before v)).1
