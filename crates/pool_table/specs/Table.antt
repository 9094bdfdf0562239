-- A table with a place for each cycle up to 4,096, which our own plans do not exceed: how many frames have a cycle up to it.
-- Assumes nothing.
use Rattle.std.specs.Prelude.{ℕ, ◌+◌, ◌≤◌, ◌<◌, ◌≡◌, List, eqb, leb, length, get_or}
use Rattle.counting.specs.Count.{how_many}
use Rattle.schedule.specs.Schedule.{cycle_of}
use Rattle.header.specs.Limits.{max_frames}

-- how many frames of the list have a cycle up to c
abbrev pub cycles_up_to : List ℕ → ℕ → ℕ
cycles_up_to cycles c = how_many (length cycles) (λ j. leb (cycle_of cycles j) c)

-- a place for each cycle, 0 among them
abbrev pub table_length : ℕ
table_length = max_frames + 1

pub record Zeroed (table : List ℕ) : Type 0 where
  pub long : length table ≡ table_length
  pub zeros : (c : ℕ) → get_or table c 0 ≡ 0

-- a plan whose cycles are up to `top`, within the table
pub record Low (cycles : List ℕ) (top : ℕ) : Type 0 where
  pub few : length cycles ≤ max_frames
  pub top_low : top ≤ max_frames
  pub up_to_top : (i : ℕ) → i < length cycles → cycle_of cycles i ≤ top

-- the frames of each cycle are counted
pub record Tallied (cycles table : List ℕ) : Type 0 where
  pub long : length table ≡ table_length
  pub counts : (c : ℕ) → c < table_length → get_or table c 0 ≡ how_many (length cycles) (λ j. eqb (cycle_of cycles j) c)

pub record Table (cycles table : List ℕ) (top : ℕ) : Type 0 where
  pub long : length table ≡ table_length
  pub low : Low cycles top
  pub entries : (c : ℕ) → c ≤ top → get_or table c 0 ≡ cycles_up_to cycles c
