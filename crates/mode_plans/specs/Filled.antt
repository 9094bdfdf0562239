-- What the functions that plan a list leave.
-- Assumes nothing.
use Rattle.std.specs.Prelude.{ℕ, ◌≡◌, List}
use Rattle.counting.specs.Count.{written}
use Rattle.schedule.specs.Greedy.{Plan}

-- a plan is written over the front of `before`, and its T answered
pub record Filled (plan : Plan) (before after : List ℕ) (T : ℕ) : Type 0 where
  pub buffer : after ≡ written plan.cycles before
  pub length_is : T ≡ plan.T
