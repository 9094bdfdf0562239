-- What a plan writes, cycle by cycle and card by card (document 01, "The checker and the saver": "one entry for each of the 32 cards: the
-- position written in this cycle, or 65,535 for none").
-- Assumes nothing.
use Rattle.std.specs.Prelude.{ℕ, zero, suc, ◌+◌, ◌≤◌, ◌<◌, ◌≡◌, ◌&&◌, cond, List, [], ◌∷◌, ◌++◌, eqb, length}
use Rattle.counting.specs.Count.{bit, tabulate}
use Rattle.counting.specs.Frames.{card_of}
use Rattle.schedule.specs.Schedule.{cycle_of}
use Rattle.schedule.specs.Greedy.{Plan}
use Rattle.header.specs.Limits.{max_cards}
use Rattle.greedy_pool.specs.Pool.{none}

-- the position, among the first n frames, of card k's frame in cycle c
abbrev pub frame_among : List ℕ → List ℕ → ℕ → ℕ → ℕ → ℕ
frame_among cards cycles c k zero = none
frame_among cards cycles c k (suc n) = cond (eqb (card_of cards n) k && eqb (cycle_of cycles n) c) n (frame_among cards cycles c k n)

-- what cycle c writes: an entry for each card
abbrev pub entries_of : List ℕ → List ℕ → ℕ → List ℕ
entries_of cards cycles c = tabulate max_cards (λ k. frame_among cards cycles c k (length cycles))

-- what cycles 1 to t write, one after the other
abbrev pub cycles_up_to : List ℕ → List ℕ → ℕ → List (List ℕ)
cycles_up_to cards cycles zero = []
cycles_up_to cards cycles (suc t) = cycles_up_to cards cycles t ++ (entries_of cards cycles (suc t) ∷ [])

-- the log of a plan: what its T cycles write
abbrev pub log_of : List ℕ → Plan → List (List ℕ)
log_of cards p = cycles_up_to cards p.cycles p.T

-- how many times a position stands in a list, and in a log
abbrev pub times : ℕ → List ℕ → ℕ
times i [] = 0
times i (x ∷ l) = bit (eqb x i) + times i l

abbrev pub times_in : ℕ → List (List ℕ) → ℕ
times_in i [] = 0
times_in i (entries ∷ log) = times i entries + times_in i log

-- A plan in the making whose log tells it: its cycles are among the T made, and no card has two frames in one of them.
pub record Told (cards : List ℕ) (p : Plan) : Type 0 where
  pub cycles_made : (i : ℕ) → i < length p.cycles → cycle_of p.cycles i ≤ p.T
  pub card_rule : (i j : ℕ) → i < j → j < length p.cycles → card_of cards i ≡ card_of cards j → cycle_of p.cycles i ≡ cycle_of p.cycles j
      → cycle_of p.cycles i ≡ 0
