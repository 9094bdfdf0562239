-- What the functions behind `drive` answer: the frames handed over at the end of a cycle, and one step where memory has a place for each frame.
-- Assumes nothing.
use Rattle.std.specs.Prelude.{ℕ, ◌-◌, ◌≤◌, ◌<◌, ◌≡◌, cond, List, length, get_or}
use Rattle.schedule.specs.Dock.{deliver}
use Rattle.dock.specs.Records.{broken_off}
use Rattle.dock.specs.Drive.{held_in, against_rules, record_made, bytes_made, record_after, bytes_after}
use Rattle.dock.specs.declared.Dock.{Dock}
use Rattle.dock.specs.declared.Step.{Step}

-- The bytes of the frames from `from` to n are 128 less, and no other byte is changed.
pub record Freed (from n : ℕ) (before after : List ℕ) : Type 0 where
  pub forward : from ≤ n
  pub freed : (i : ℕ) → from ≤ i → i < n → get_or after i 0 ≡ get_or before i 0 - 128
  pub earlier : (i : ℕ) → i < from → get_or after i 0 ≡ get_or before i 0
  pub later : (i : ℕ) → n ≤ i → get_or after i 0 ≡ get_or before i 0
  pub same_length : length after ≡ length before

-- Of `frames` frames `from` are handed over before the end of a cycle, and n after it.
pub record HandedOver (from frames : ℕ) (before : List ℕ) (n : ℕ) (after : List ℕ) : Type 0 where
  pub count : n ≡ deliver (held_in before) (frames - from) from
  pub bytes : Freed from n before after

-- One step of a dock that is not broken off.
pub record Performed (dock : Dock) (step : Step) (before : List ℕ) (r : Dock) (after : List ℕ) : Type 0 where
  pub dock_is : r ≡ cond (against_rules dock before step) (broken_off dock) (record_made dock before step)
  pub memory_is : after ≡ cond (against_rules dock before step) before (bytes_made dock before step)
  pub same_length : length after ≡ length before

-- One step.
pub record Advanced (dock : Dock) (step : Step) (before : List ℕ) (r : Dock) (after : List ℕ) : Type 0 where
  pub dock_is : r ≡ record_after dock before step
  pub memory_is : after ≡ bytes_after dock before step
  pub same_length : length after ≡ length before
