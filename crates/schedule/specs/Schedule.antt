-- Schedules, their length, and when they are correct (document 01, "Rules from document 000"; the paper, section 2).
--
-- A list of frames is given by the list of their cards; frame i, counted from 0, is on card `card_of cards i`.
-- A schedule of it is a list of cycles; frame i is written or read in cycle `cycle_of cycles i`, 1 or higher and without limit.
-- Cycle 0 is no cycle: a list that has it is not correct. Quiet cycles are allowed. With no frames the empty schedule is correct.
-- Assumes nothing.
use Rattle.std.specs.Prelude.{ℕ, ◌≤◌, ◌<◌, ◌≡◌, ◌&&◌, List, leb, ltb, length, get_or}
use Rattle.counting.specs.Count.{how_many, largest}
use Rattle.counting.specs.Frames.{card_of}

abbrev pub cycle_of : List ℕ → ℕ → ℕ
cycle_of cycles i = get_or cycles i 0

-- "Its length T, the number of its cycles, is its largest cycle number, 0 for no frames."
abbrev pub cycles_in : List ℕ → ℕ
cycles_in cycles = largest cycles

-- The earlier frames that have a cycle equal to or later than i's: |{j < i : oStep(j) ≥ oStep(i)}|.
abbrev pub o_backlog : List ℕ → ℕ → ℕ
o_backlog cycles i = how_many i (λ j. leb (cycle_of cycles i) (cycle_of cycles j))

-- The later frames that have a cycle equal to or earlier than i's: |{j > i : iStep(j) ≤ iStep(i)}|.
abbrev pub i_backlog : List ℕ → ℕ → ℕ
i_backlog cycles i = how_many (length cycles) (λ j. ltb i j && leb (cycle_of cycles j) (cycle_of cycles i))

-- "A read plan without cycle 0 or a shared card and cycle" (request 2026-05): what reads and saves have in common, whatever the pool.
pub record Proper (cards cycles : List ℕ) : Type 0 where
  -- "A schedule gives each frame of the list a cycle number, 1 or higher"
  pub one_each : length cycles ≡ length cards
  pub from_one : (i : ℕ) → i < length cards → 1 ≤ cycle_of cycles i
  -- "no card has two frames in one cycle"
  pub card_rule : (i j : ℕ) → i < j → j < length cards → card_of cards i ≡ card_of cards j → cycle_of cycles i ≡ cycle_of cycles j → ⊥

-- Correct for a pool of m, where `backlog` says which frames share the pool with frame i until its cycle.
pub record Correct (backlog : List ℕ → ℕ → ℕ) (m : ℕ) (cards cycles : List ℕ) : Type 0 where
  pub proper : Proper cards cycles
  -- "for each frame i, fewer than m .. frames have a cycle .."
  pub pool_rule : (i : ℕ) → i < length cards → backlog cycles i < m

-- "Correct save schedule"
abbrev pub CorrectSave : ℕ → List ℕ → List ℕ → Type 0
CorrectSave m cards cycles = Correct o_backlog m cards cycles

-- "Correct read schedule"
abbrev pub CorrectRead : ℕ → List ℕ → List ℕ → Type 0
CorrectRead m cards cycles = Correct i_backlog m cards cycles
