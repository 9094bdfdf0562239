-- The checker's verdict on a plan (document 01, "The checker and the saver"), frame by frame in list order.
--
-- A cycle 0 takes part in the comparisons of other frames as the number 0: nothing here leaves it out. With no frames a plan is valid,
-- T = 0 and peak 0. Cycles have no upper limit.
-- Assumes nothing.
use Rattle.std.specs.Prelude.{ℕ, zero, suc, ◌≤◌, ◌<◌, ◌≡◌, Bool, ◌&&◌, cond, List, eqb, leb, ltb, length}
use Rattle.counting.specs.Count.{how_many}
use Rattle.counting.specs.Frames.{card_of}
use Rattle.schedule.specs.Schedule.{cycle_of, cycles_in, o_backlog, i_backlog}
use Rattle.schedule.specs.Drive.{buffers_needed}

-- "cycle 0; an earlier frame of the same card in the same cycle; too many frames in the pool"
pub data Fault : Type 0 where
  no_cycle : Fault
  shared_card : Fault
  overfull : Fault

abbrev pub order : Fault → ℕ
order no_cycle = 0
order shared_card = 1
order overfull = 2

pub data Verdict : Type 0 where
  -- T and the peak
  valid : ℕ → ℕ → Verdict
  -- "the lowest position at fault, and of its faults the first"
  faulty : ℕ → Fault → Verdict

-- whether an earlier frame of the same card has the same cycle
abbrev pub shares : List ℕ → List ℕ → ℕ → Bool
shares cards cycles i = ltb 0 (how_many i (λ j. eqb (card_of cards j) (card_of cards i) && eqb (cycle_of cycles j) (cycle_of cycles i)))

-- `backlog` says which frames share the pool with frame i until its cycle.
module _ (backlog : List ℕ → ℕ → ℕ) (m : ℕ) (cards cycles : List ℕ) where
  -- frame i: the first of its faults, or what is said where it has none
  abbrev pub judge : ℕ → Verdict → Verdict
  judge i otherwise =
      cond (eqb (cycle_of cycles i) 0) (faulty i no_cycle)
      (cond (shares cards cycles i) (faulty i shared_card)
      (cond (leb m (backlog cycles i)) (faulty i overfull) otherwise))

  -- frames i, i + 1, .., k of them: the first that is at fault decides
  abbrev pub judge_from : ℕ → ℕ → Verdict → Verdict
  judge_from zero i otherwise = otherwise
  judge_from (suc k) i otherwise = judge i (judge_from k (suc i) otherwise)

-- A read plan: "valid with T and, for a read, the peak of the plan's run on a dock with a buffer for every frame".
unfoldable pub verdict_on_read : ℕ → List ℕ → List ℕ → Verdict
verdict_on_read m cards cycles =
    judge_from i_backlog m cards cycles (length cards) 0 (valid (cycles_in cycles) (buffers_needed cards cycles))

-- A save plan: "for a save the peak is 0".
unfoldable pub verdict_on_save : ℕ → List ℕ → List ℕ → Verdict
verdict_on_save m cards cycles = judge_from o_backlog m cards cycles (length cards) 0 (valid (cycles_in cycles) 0)

-- The faults in plain conditions. It is proved that a verdict names a position just as `Named` says.
module _ (backlog : List ℕ → ℕ → ℕ) (m : ℕ) (cards cycles : List ℕ) where
  abbrev pub Has : ℕ → Fault → Type 0
  Has i no_cycle = cycle_of cycles i ≡ 0
  Has i shared_card = (j : ℕ) × (j < i) × (card_of cards j ≡ card_of cards i) × (cycle_of cycles j ≡ cycle_of cycles i)
  Has i overfull = m ≤ backlog cycles i

  -- position i is the lowest at fault, and f is the first of its faults
  pub record Named (i : ℕ) (f : Fault) : Type 0 where
    pub inside : i < length cards
    pub has : Has i f
    pub lowest : (j : ℕ) → j < i → (g : Fault) → Has j g → ⊥
    pub first : (g : Fault) → order g < order f → Has i g → ⊥
