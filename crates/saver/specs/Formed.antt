-- What the records of a saver keep: the code relies on it, and every record that a call gave has it.
-- Assumes nothing.
use Rattle.std.specs.Prelude.{ℕ, ◌+◌, ◌≤◌, ◌<◌, ◌≡◌, length, get_or}
use Rattle.header.specs.Limits.{max_cards, max_pool, max_frames}
use Rattle.saver.specs.declared.Saver.{Saver}
use Rattle.saver.specs.Calls.{numbers}

pub record Formed (s : Saver) : Type 0 where
  pub few_cards : s.cards ≤ max_cards
  pub small_pool : s.pool ≤ max_pool
  pub some_pool : 1 ≤ s.pool
  pub fits_pool : s.waiting ≤ s.pool
  -- every cycle has written a frame
  pub all_taken : s.made.0 + s.waiting ≤ s.taken
  pub few_taken : s.taken ≤ max_frames
  pub each_card : (i : ℕ) → i < s.waiting → get_or s.card i 0 < s.cards
  pub each_position : (i : ℕ) → i < s.waiting → get_or (numbers s.position) i 0 < s.taken
  pub cards_long : length s.card ≡ max_pool
  pub positions_long : length s.position ≡ max_pool

-- there is room for one frame more
pub record Room (s : Saver) : Type 0 where
  pub place : s.waiting < max_pool
  pub number : s.taken < max_frames
