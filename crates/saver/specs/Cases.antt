-- Cases of the saver: what some calls write, cycle by cycle, on the first two cards, and the refusals in their order.
-- Assumes nothing.
use Rattle.std.specs.Prelude.{ℕ, List, [], ◌∷◌, map, take}
use Rattle.greedy_pool.specs.Pool.{none}
use Rattle.saver.specs.declared.Saver.{Saver}
use Rattle.saver.specs.Calls.{new_of}
use Rattle.saver.specs.Runs.{Call, save, close, call_of, log, saved_and_closed}

-- A case: the pool of a new saver for two cards, calls, and what they write: the entries of cards 0 and 1 for each cycle.
pub record Case : Type 0 where
  pub pool : ℕ
  pub calls : List Call
  pub expected : List (List ℕ)

abbrev pub written_in : Case → List (List ℕ)
written_in c = map (take 2) (log (new_of 2 c.pool).saver c.calls)

abbrev pub cases : List Case
cases =
    -- list 0 0 1, pool 2: the save plan is 1 2 2
    record { pool = 2; calls = saved_and_closed (0 ∷ 0 ∷ 1 ∷ []) 2; expected = (0 ∷ none ∷ []) ∷ (1 ∷ 2 ∷ []) ∷ [] }
    -- pool 1: 1 2 3
    ∷ record {
      pool = 1;
      calls = saved_and_closed (0 ∷ 0 ∷ 1 ∷ []) 1;
      expected = (0 ∷ none ∷ []) ∷ (1 ∷ none ∷ []) ∷ (none ∷ 2 ∷ []) ∷ [];
    }
    -- a full pool makes no cycle until a further frame comes: nothing is written
    ∷ record { pool = 2; calls = saved_and_closed (0 ∷ 1 ∷ []) 0; expected = [] }
    -- a save on a card that is not there is refused and uses up no position; a closing cycle too many writes nothing, and neither does a save
    -- after closing has begun
    ∷ record { pool = 2; calls = save 0 ∷ save 2 ∷ save 1 ∷ close ∷ close ∷ save 0 ∷ []; expected = (0 ∷ 1 ∷ []) ∷ [] }
    ∷ []

-- the numbers of the refusals that some calls give, one after the other; 0 for none
abbrev pub refusals : Saver → List Call → List ℕ
refusals s [] = []
refusals s (a ∷ calls) = (call_of s a).refusal ∷ refusals (call_of s a).saver calls
