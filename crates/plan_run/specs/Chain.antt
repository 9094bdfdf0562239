-- The chains of a plan whose cycles are up to 4,096: of each cycle its first frame, and of each frame the next one of its cycle.
-- Assumes nothing.
use Rattle.std.specs.Prelude.{ℕ, suc, ◌≤◌, ◌<◌, ◌≡◌, List, length, get_or}
use Rattle.schedule.specs.Schedule.{cycle_of}
use Rattle.header.specs.Limits.{max_frames}

-- a place for each cycle up to 4,096
abbrev pub heads : ℕ
heads = suc max_frames

-- stands for no position
abbrev pub nowhere : ℕ
nowhere = 65535

-- a plan within the tables
pub record Small (cycles : List ℕ) : Type 0 where
  pub few : length cycles ≤ max_frames
  pub low : (i : ℕ) → i < length cycles → cycle_of cycles i ≤ max_frames

-- no cycle has a first frame yet
pub record Unlinked (first after : List ℕ) : Type 0 where
  pub first_long : length first ≡ heads
  pub after_long : length after ≡ max_frames
  pub empty : (t : ℕ) → t < heads → get_or first t 0 ≡ nowhere

-- x is the first position from i on that has cycle t, or none has it
pub record From (cycles : List ℕ) (t i x : ℕ) : Type 0 where
  pub none_before : (j : ℕ) → i ≤ j → j < x → j < length cycles → cycle_of cycles j ≡ t → ⊥
  pub met : (x ≡ nowhere → ⊥) → (i ≤ x) × (x < length cycles) × (cycle_of cycles x ≡ t)

-- the frames from i on are linked
pub record Chains (cycles : List ℕ) (i : ℕ) (first after : List ℕ) : Type 0 where
  pub inside : i ≤ length cycles
  pub first_long : length first ≡ heads
  pub after_long : length after ≡ max_frames
  pub firsts : (t : ℕ) → t < heads → From cycles t i (get_or first t 0)
  pub nexts : (j : ℕ) → i ≤ j → j < length cycles → From cycles (cycle_of cycles j) (suc j) (get_or after j 0)
