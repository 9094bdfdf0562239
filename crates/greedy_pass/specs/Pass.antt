-- What the pass asks for, and what it leaves.
-- Assumes nothing.
use Rattle.std.specs.Prelude.{ℕ, ◌≤◌, ◌<◌, ◌≡◌, Bool, List, map, length}
use Rattle.counting.specs.Count.{written}
use Rattle.counting.specs.Frames.{card_of}
use Rattle.counting.specs.Lists.{turned}
use Rattle.schedule.specs.Greedy.{save_and_keep, greedy_writing}
use Rattle.header.specs.Limits.{max_cards, max_frames}
use Rattle.greedy_pass.specs.AsOf.{as_of}

-- a list within the limits, and a buffer with room for its plan
pub record Asked (m : ℕ) (cards out : List ℕ) : Type 0 where
  pub pool : 1 ≤ m
  pub few : length cards ≤ max_frames
  pub each_card : (i : ℕ) → i < length cards → card_of cards i < max_cards
  pub room : length cards ≤ length out

-- a pass has written greedy_writing's cycles over the front of `before`; so many cycles are made when the last frame has entered, and in all
pub record Passed (m : ℕ) (back : Bool) (cards before after : List ℕ) (made all : ℕ) : Type 0 where
  pub filled : after ≡ written (turned back (greedy_writing m (turned back cards)).cycles) before
  pub all_is : all ≡ (greedy_writing m (turned back cards)).T
  pub all_few : all ≤ max_frames
  pub made_is : made ≡ (save_and_keep m (turned back cards)).T
  pub kept : (save_and_keep m (turned back cards)).cycles ≡ map (as_of made) (greedy_writing m (turned back cards)).cycles
