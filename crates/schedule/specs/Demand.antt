-- Demand 3, as a statement about a plan: its list of cycles and its T. This is the sentence of the data sheet, which speaks of docks of 1 to 192
-- buffers (crates/planner/specs/Demand3.antt says it of them); here the pool m is any number.
-- `save_demand` and `read_demand` of proofs/Main.antt prove it of greedy_writing and of lazy prefetching.
-- Assumes nothing.
use Rattle.std.specs.Prelude.{ℕ, ◌≤◌, ◌≡◌, false, List, length, take}
use Rattle.schedule.specs.Schedule.{cycles_in, CorrectSave}
use Rattle.schedule.specs.Dock.{Step, empty_dock, holding, run}
use Rattle.schedule.specs.Drive.{complete, outcome, steps_to}

-- A save plan: it is a correct schedule of T cycles, and no correct schedule, oldest first or not, is shorter.
pub record SaveDemand (m : ℕ) (cards cycles : List ℕ) (T : ℕ) : Type 0 where
  pub correct : CorrectSave m cards cycles
  pub takes_T : cycles_in cycles ≡ T
  pub none_shorter : (others : List ℕ) → CorrectSave m cards others → T ≤ cycles_in others

-- The run of a read plan's own list of steps, from the empty dock.
pub record Drives (m : ℕ) (cards cycles : List ℕ) (T : ℕ) : Type 0 where
  -- it breaks no rule,
  pub breaks_no_rule : (run m cards (steps_to cycles T) empty_dock).broken ≡ false
  -- hands over everything (always the first ones of the list, so in order)
  pub delivers_all : (run m cards (steps_to cycles T) empty_dock).delivered ≡ length cards
  -- in exactly T cycles,
  pub needs_T : outcome m cards (steps_to cycles T) empty_dock ≡ complete T
  -- and after no step, whichever first n of them are taken, holds more than the pool.
  pub within_pool : (n : ℕ) → holding cards (run m cards (take n (steps_to cycles T)) empty_dock) ≤ m

-- A read plan: it drives the dock, and EVERY list of reads, drops and ends (steps against the rules included) after which all frames
-- are handed over needed T cycles or more.
pub record ReadDemand (m : ℕ) (cards cycles : List ℕ) (T : ℕ) : Type 0 where
  pub drives : Drives m cards cycles T
  pub none_fewer : (steps : List Step) → (run m cards steps empty_dock).delivered ≡ length cards
      → (n : ℕ) × (outcome m cards steps empty_dock ≡ complete n) × (T ≤ n)
