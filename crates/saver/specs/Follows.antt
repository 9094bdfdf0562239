-- The saver's calls are steps of greedy_writing (crates/schedule/specs/Greedy.antt): which plan in the making a record shows, and what a call does
-- to it.
-- Assumes nothing.
use Rattle.std.specs.Prelude.{ℕ, suc, ◌≡◌, List, map, length, take, replicate}
use Rattle.counting.specs.Frames.{card_of}
use Rattle.schedule.specs.Greedy.{Plan, in_pool, one_cycle, save_frame}
use Rattle.header.specs.Limits.{max_cards}
use Rattle.greedy_pool.specs.Pool.{none, pool_of}
use Rattle.greedy_pool.specs.Log.{entries_of, Told}
use Rattle.saver.specs.declared.Saver.{Saver}
use Rattle.saver.specs.declared.Answer.{Answer}
use Rattle.saver.specs.Calls.{position, numbers}

-- The record shows the plan p in the making, of a list that begins with the frames saved so far: the same frames wait, in list order, and as
-- many cycles have been made.
pub record ShowsPlan (list : List ℕ) (p : Plan) (s : Saver) : Type 0 where
  pub taken : s.taken ≡ length p.cycles
  pub made : s.made.0 ≡ p.T
  pub waiting : s.waiting ≡ in_pool p.cycles
  pub positions : take s.waiting (numbers s.position) ≡ pool_of p.cycles
  pub cards : take s.waiting s.card ≡ map (card_of list) (pool_of p.cycles)
  -- what greedy_writing's plans have: no cycle over T, and no card with two frames in one
  pub told : Told list p

-- The answer tells greedy_writing's step from the plan p to the plan q.
pub record Tells (list : List ℕ) (p q : Plan) (r : Answer) : Type 0 where
  pub shows : ShowsPlan list q r.saver
  -- no cycle is made, and nothing is written
  pub no_cycle : q.T ≡ p.T → (r.cycle.0 ≡ 0) × (r.written ≡ replicate max_cards (position none))
  -- or a cycle is made: its number, and for each card the position that the plan writes in it
  pub a_cycle : q.T ≡ suc p.T → (r.cycle.0 ≡ q.T) × (r.written ≡ map position (entries_of list q.cycles q.T))

-- A save that is not refused is greedy_writing's step for the next frame of the list.
pub record SaveFollows (s : Saver) (card : ℕ) (r : Answer) : Type 0 where
  pub follows :
      (list : List ℕ) (p : Plan) → ShowsPlan list p s → card_of list s.taken ≡ card
      → r.refusal ≡ 0 → Tells list p (save_frame list s.pool p) r

-- A closing cycle that is not refused is greedy_writing's cycle.
pub record CloseFollows (s : Saver) (r : Answer) : Type 0 where
  pub follows : (list : List ℕ) (p : Plan) → ShowsPlan list p s → r.refusal ≡ 0 → Tells list p (one_cycle list p) r
