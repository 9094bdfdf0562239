-- greedyWriting, save and keep, and lazy prefetching, as published (document 01, "Rules from document 000"; the paper, section 3).
--
-- greedy_writing is run on a plan in the making: each frame that has entered has the cycle that wrote it, or 0 while it waits in the pool.
-- Edge cases: with m = 1 every frame but the first makes a cycle; with m at least the number of frames all cycles are closing ones;
-- with no frames there is no cycle.
-- Assumes nothing.
use Rattle.std.specs.Prelude.{ℕ, zero, suc, ◌+◌, ◌-◌, Bool, ◌&&◌, cond, List, [], ◌∷◌, ◌++◌, map, reverse, eqb, ltb, length}
use Rattle.counting.specs.Count.{how_many, tabulate}
use Rattle.counting.specs.Frames.{card_of}
use Rattle.schedule.specs.Schedule.{cycle_of}

-- A cycle for each frame, 0 for a frame that no cycle has written, and T, the number of cycles made.
pub record Plan : Type 0 where
  pub cycles : List ℕ
  pub T : ℕ

-- whether frame i waits in the pool
abbrev pub waits : List ℕ → ℕ → Bool
waits cycles i = eqb (cycle_of cycles i) 0

-- how many frames wait in the pool
abbrev pub in_pool : List ℕ → ℕ
in_pool cycles = how_many (length cycles) (waits cycles)

abbrev pub empty_plan : Plan
empty_plan = record { cycles = []; T = 0 }

-- "the frame enters"
abbrev pub enter : Plan → Plan
enter p = record { cycles = p.cycles ++ (0 ∷ []); T = p.T }

module _ (cards : List ℕ) where
  -- whether frame i waits, and of its card's waiting frames is the one that is first in the list
  abbrev pub is_first : List ℕ → ℕ → Bool
  is_first cycles i = waits cycles i && eqb (how_many i (λ j. eqb (card_of cards j) (card_of cards i) && waits cycles j)) 0

  -- "one cycle is made: every card with waiting frames writes the one that is first in the list"
  abbrev pub one_cycle : Plan → Plan
  one_cycle p =
      record {
        cycles = tabulate (length p.cycles) (λ i. cond (is_first p.cycles i) (suc p.T) (cycle_of p.cycles i));
        T = suc p.T;
      }

  -- "If the pool has fewer than m, the frame enters. If not, one cycle is made ..; then the frame enters."
  abbrev pub save_frame : ℕ → Plan → Plan
  save_frame m p = enter (cond (ltb (in_pool p.cycles) m) p (one_cycle p))

  -- "take the frames in order": the first n of them are saved
  abbrev pub save_first : ℕ → ℕ → Plan
  save_first m zero = empty_plan
  save_first m (suc n) = save_frame m (save_first m n)

  -- "cycles follow until the pool is empty"; each empties it by a frame or more, so k cycles are enough for a pool of k
  abbrev pub flush : ℕ → Plan → Plan
  flush zero p = p
  flush (suc k) p = cond (eqb (in_pool p.cycles) 0) p (flush k (one_cycle p))

-- "greedyWriting without the closing cycles; frames left in the pool have cycle 0, and T is the number of cycles made"
unfoldable pub save_and_keep : ℕ → List ℕ → Plan
save_and_keep m cards = save_first cards m (length cards)

-- "After the last frame, cycles follow until the pool is empty."
unfoldable pub greedy_writing : ℕ → List ℕ → Plan
unfolding save_and_keep
greedy_writing m cards = flush cards (length cards) (save_and_keep m cards)

-- a schedule of T cycles turned round: the list reversed, and cycle c made T − c + 1
abbrev pub turn_round : ℕ → List ℕ → List ℕ
turn_round T cycles = reverse (map (λ c. T - c + 1) cycles)

-- "Lazy prefetching: greedyWriting on the reversed list, with length T; a frame written there in cycle c is read in cycle T − c + 1."
unfoldable pub lazy_prefetching : ℕ → List ℕ → Plan
lazy_prefetching m cards =
    let written : Plan = greedy_writing m (reverse cards) in
    record { cycles = turn_round written.T written.cycles; T = written.T }
