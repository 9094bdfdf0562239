-- The public theorems about a dock that is started for a ticket. The contract of `start` (src/lib.rt) says what the call does; these say that it
-- is the empty dock of the model (crates/schedule/specs/Dock.antt).
-- Assumes nothing.
use Prim.Native.Nat.{ℕ, ◌≤◌}
use mathlib.Core.Path.{◌≡◌}
use mathlib.Core.List.{List, ◌++◌}
use lib.ListN.{length, drop}
use Rattle.std.specs.Prelude.{Result, Ok}
use Rattle.schedule.specs.Dock.{empty_dock}
use Rattle.header.specs.declared.Header.{Header}
use Rattle.ticket.specs.Ticket.{accepted, parse}
use Rattle.ticket.specs.Grounds.{Fits}
use Rattle.dock.specs.State.{ShowsDock, new_dock}
use Rattle.dock.specs.declared.Dock.{Dock}
use Rattle.dock_start.specs.Start.{start_of, memory_started}
use Rattle.dock_start.proofs.Starting as starting

-- A started dock shows the empty dock of the model.
pub start_shows : (h : Header) (cards before : List ℕ) → Fits h cards → length cards ≤ length before
    → ShowsDock h.pool cards empty_dock (new_dock h.pool (length cards)) (cards ++ drop (length cards) before)
start_shows = starting.start_shows

-- So does what `start` answers to an accepted ticket, with memory for its list.
pub started_shows : (t before : List ℕ) (h : Header) (cards : List ℕ) → parse t ≡ accepted h cards → length cards ≤ length before
    → (r : Result Dock ℕ) (after : List ℕ) → (r ≡ start_of (parse t) (length before)) × (after ≡ memory_started (parse t) before)
    → (r ≡ Ok (new_dock h.pool (length cards))) × ShowsDock h.pool cards empty_dock (new_dock h.pool (length cards)) after
started_shows = starting.started_shows
