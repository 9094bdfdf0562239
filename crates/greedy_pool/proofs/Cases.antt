-- A pool of four frames and the log of a plan, computed.
-- Assumes nothing.
use mathlib.Core.Path.{◌≡◌, refl}
use mathlib.Core.List.{[], ◌∷◌, map}
use lib.ListN.{take}
use Rattle.schedule.specs.Greedy.{save_and_keep, greedy_writing}
use Rattle.greedy_pool.specs.Pool.{none, left, writes}
use Rattle.greedy_pool.specs.Log.{log_of}

-- frames 3, 5, 6 and 7 wait, on cards 0, 0, 1 and 0: a cycle writes 3 and 6, and 5 and 7 are left
pub left_holds : left (0 ∷ 0 ∷ 1 ∷ 0 ∷ []) (3 ∷ 5 ∷ 6 ∷ 7 ∷ []) 4 ≡ 5 ∷ 7 ∷ []
left_holds = refl

pub writes_hold : map (λ k. writes k (0 ∷ 0 ∷ 1 ∷ 0 ∷ []) (3 ∷ 5 ∷ 6 ∷ 7 ∷ []) 4) (0 ∷ 1 ∷ 2 ∷ []) ≡ 3 ∷ 6 ∷ none ∷ []
writes_hold = refl

-- the save plan 1 2 2 of the list 0 0 1, pool 2: cycle 1 writes frame 0; cycle 2 writes frames 1 and 2. Cards 0 and 1 are shown.
pub log_holds : map (take 2) (log_of (0 ∷ 0 ∷ 1 ∷ []) (greedy_writing 2 (0 ∷ 0 ∷ 1 ∷ []))) ≡ (0 ∷ none ∷ []) ∷ (1 ∷ 2 ∷ []) ∷ []
unfolding greedy_writing save_and_keep
log_holds = refl
