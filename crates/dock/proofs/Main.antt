-- The public theorems about the dock as code, each proved in a module of its own. The contract of `drive` (src/lib.rt) says what
-- one call does; these say that calls one after the other are the run of the model (crates/schedule/specs/Dock.antt).
-- Assumes nothing.
use Prim.Native.Nat.{ℕ, ◌≤◌, ◌<◌}
use mathlib.Core.Path.{◌≡◌}
use mathlib.Core.List.{List, ◌++◌}
use lib.ListN.{length, drop}
use Rattle.schedule.specs.Dock.{empty_dock, run, Step as ModelStep}
use Rattle.counting.specs.Frames.{card_of}
use Rattle.header.specs.Limits.{max_cards, max_frames}
use Rattle.dock.specs.State.{ShowsDock, new_dock}
use Rattle.dock.specs.Drive.{memory_driven, Driving}
use Rattle.dock.specs.declared.Dock.{Dock}
use Rattle.dock.specs.declared.Step.{Step}
use Rattle.dock.proofs.AtStart as at-start
use Rattle.dock.proofs.Driving as driving
use Rattle.dock.proofs.Past as past

-- The cards of a list within the limits, none held, at the front of memory: with the record of a new dock they show the empty dock of the model.
pub empty_shows :
    (m : ℕ) (cards rest : List ℕ) → length cards ≤ max_frames → ((i : ℕ) → i < length cards → card_of cards i < max_cards)
    → ShowsDock m cards empty_dock (new_dock m (length cards)) (cards ++ rest)
empty_shows = at-start.empty_shows

-- Calls of `drive`, one after the other, are the model's run of the list of their steps.
pub driving_shows : (m : ℕ) (cards : List ℕ) (steps : List ModelStep) (dock : Dock) (memory : List ℕ)
    → Driving m cards steps dock memory → ShowsDock m cards (run m cards steps empty_dock) dock memory
driving_shows = driving.driving_shows

-- Places past the list keep their content, whichever record, memory and step are handed in.
pub past_kept : (dock : Dock) (memory : List ℕ) (a : Step) → drop dock.frames (memory_driven dock memory a) ≡ drop dock.frames memory
past_kept = past.past_kept
