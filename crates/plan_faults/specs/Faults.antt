-- The first fault of a plan, as the code answers it, and what decides it: how many frames come before the first card fault, and before the first
-- overfull pool.
-- Assumes nothing.
use Rattle.std.specs.Prelude.{ℕ, ◌≤◌, ◌<◌, ◌≡◌, Bool, true, false, ◌||◌, List, eqb, length}
use Rattle.counting.specs.Count.{least}
use Rattle.counting.specs.Frames.{card_of}
use Rattle.schedule.specs.Schedule.{cycle_of}
use Rattle.schedule.specs.Verdict.{Fault, no_cycle, shared_card, overfull, Verdict, valid, faulty, shares, judge_from}
use Rattle.header.specs.Limits.{max_cards, max_frames}
use Rattle.pool_counts.specs.Backlog.{backlog_of}
use Rattle.std.specs.Prelude.{Option, None, Some}
use Rattle.plan_faults.specs.declared.Found.{Found}
use Rattle.plan_faults.specs.declared.Found.TheVariants.{CycleMissing, CardShared, PoolOverfull}

-- a list within the limits, and a plan of as many cycles
pub record Checking (cards cycles : List ℕ) : Type 0 where
  pub same_length : length cycles ≡ length cards
  pub few : length cards ≤ max_frames
  pub each_card : (i : ℕ) → i < length cards → card_of cards i < max_cards

-- the faults of a frame but for its pool: "cycle 0; an earlier frame of the same card in the same cycle"
abbrev pub card_fault : List ℕ → List ℕ → ℕ → Bool
card_fault cards cycles i = eqb (cycle_of cycles i) 0 || shares cards cycles i

-- of the first n frames, the lowest position that has one of them; n where none has
abbrev pub clear_of : List ℕ → List ℕ → ℕ → ℕ
clear_of cards cycles n = least n (card_fault cards cycles)

-- How many frames are known to have no card fault, c, and how many to have room in the pool, r: enough to tell the first fault. If r is the
-- smaller, frame r is overfull; if not, frame c has a card fault, or there is no such frame.
pub record Decided (save : Bool) (m : ℕ) (cards cycles : List ℕ) (c r : ℕ) : Type 0 where
  pub clear_inside : c ≤ length cards
  pub clear : (j : ℕ) → j < c → card_fault cards cycles j ≡ false
  pub has_card_fault : c ≤ r → c < length cards → card_fault cards cycles c ≡ true
  pub roomy_inside : r ≤ length cards
  pub roomy : (j : ℕ) → j < r → backlog_of save cycles j < m
  pub overfull_next : r < c → m ≤ backlog_of save cycles r

-- what is found, from the verdict of the theory, whose faults are found in the same order
abbrev pub fault_at : ℕ → Fault → Option Found
fault_at i no_cycle = Some (CycleMissing (record { 0 = i }))
fault_at i shared_card = Some (CardShared (record { 0 = i }))
fault_at i overfull = Some (PoolOverfull (record { 0 = i }))

abbrev pub found_in : Verdict → Option Found
found_in (valid T peak) = None
found_in (faulty i fault) = fault_at i fault

-- in the whole list
unfoldable pub first_fault : Bool → ℕ → List ℕ → List ℕ → Option Found
first_fault save m cards cycles = found_in (judge_from (backlog_of save) m cards cycles (length cards) 0 (valid 0 0))
