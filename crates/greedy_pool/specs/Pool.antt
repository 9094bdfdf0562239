-- The pool as the list of the frames that wait in it, and what one cycle of greedy_writing does to that list (document 01, "Rules from
-- document 000": "one cycle is made: every card with waiting frames writes the one that is first in the list").
--
-- The frames of a pool stand in list order, at places counted from 0: `cards` has the card and `positions` the position of each.
-- Assumes nothing.
use Rattle.std.specs.Prelude.{ℕ, zero, suc, Bool, ◌&&◌, cond, List, [], ◌∷◌, ◌++◌, eqb, length, get_or}
use Rattle.counting.specs.Count.{how_many}
use Rattle.counting.specs.Frames.{card_of}
use Rattle.schedule.specs.Greedy.{waits}

-- "the position written in this cycle, or 65,535 for none"
abbrev pub none : ℕ
none = 65535

-- whether the frame at place i is the first of its card
abbrev pub is_oldest : List ℕ → ℕ → Bool
is_oldest cards i = eqb (how_many i (λ j. eqb (card_of cards j) (card_of cards i))) 0

-- what is left of the first n places: the frames that are not the first of their card. `values` has what is wanted of each place.
abbrev pub left : List ℕ → List ℕ → ℕ → List ℕ
left cards values zero = []
left cards values (suc n) = left cards values n ++ cond (is_oldest cards n) [] (get_or values n 0 ∷ [])

-- the position that card k writes, of the frames at the first n places
abbrev pub writes : ℕ → List ℕ → List ℕ → ℕ → ℕ
writes k cards positions zero = none
writes k cards positions (suc n) = cond (eqb (card_of cards n) k && is_oldest cards n) (get_or positions n 0) (writes k cards positions n)

-- of the first n frames of a list those that wait, by their positions, in list order
abbrev pub waiting_among : List ℕ → ℕ → List ℕ
waiting_among cycles zero = []
waiting_among cycles (suc n) = waiting_among cycles n ++ cond (waits cycles n) (n ∷ []) []

-- the pool of a plan in the making: the positions of the frames that wait
abbrev pub pool_of : List ℕ → List ℕ
pool_of cycles = waiting_among cycles (length cycles)
