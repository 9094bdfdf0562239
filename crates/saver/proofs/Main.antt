-- The saver's theorems: saving a list and closing until the pool is empty writes exactly what its save plan says, in the fewest cycles there
-- are; and whatever calls are made, the pool is never over m, nothing is written twice and nothing is lost. The definitions are in specs/: Calls,
-- Follows, Runs; what a plan writes, cycle by cycle and card by card, is `log_of` (crates/greedy_pool/specs/Log.antt).
-- Assumes nothing.
use Prim.Native.Nat.{ℕ, ◌+◌, ◌≤◌, ◌<◌}
use mathlib.Core.Path.{◌≡◌, sym}
use mathlib.Core.Bool.{false}
use mathlib.Core.List.{List, map}
use lib.ListN.{length, take}
use Rattle.counting.specs.Frames.{card_of}
use Rattle.schedule.specs.Schedule.{cycles_in, CorrectSave}
use Rattle.schedule.specs.Greedy.{empty_plan, save_and_keep, greedy_writing}
use Rattle.schedule.proofs.Main.{save_fewest}
use Rattle.header.specs.Limits.{max_cards, max_pool, max_frames, Within}
use Rattle.greedy_pool.specs.Log.{log_of, times, times_in}
use Rattle.saver.specs.declared.Saver.{Saver}
use Rattle.saver.specs.Calls.{numbers, new_saver, no_saver, refusal, quiet, new_of, save_of, close_of, Given}
use Rattle.saver.specs.Follows.{SaveFollows, CloseFollows, ShowsPlan}
use Rattle.saver.specs.Runs.{Call, save, after, log, saved_and_closed}
use Rattle.saver.proofs.Opening as opening
use Rattle.saver.proofs.Forming.{given_formed}
use Rattle.saver.proofs.Saving as saving
use Rattle.saver.proofs.Whole as whole

-- Request 2026-07: "192 passes and 193 gives 5, in tickets and in the saver". A new saver for 1 to 32 cards is not refused with a pool of 1 to 192,
-- and by 5 with a larger one.
pub new_pool_passes : (cards pool : ℕ) → Within max_cards cards → Within 192 pool → new_of cards pool ≡ quiet (new_saver cards pool false)
new_pool_passes = opening.new_is

pub new_pool_over : (cards pool : ℕ) → Within max_cards cards → 192 < pool → new_of cards pool ≡ refusal 5 no_saver
new_pool_over = opening.new_over

-- The two tables of a record have 192 places, one for each frame that can wait.
pub record_places : {s : Saver} → Given s → (length s.card ≡ 192) × (length s.position ≡ 192)
record_places g = ((given_formed g).cards_long, (given_formed g).positions_long)

-- A new saver for 1 to 32 cards and a pool of 1 to 192.
module _ (cards m : ℕ) (of-cards : Within max_cards cards) (of-pool : Within max_pool m) where
  abbrev new : Saver
  new = (new_of cards m).saver

  -- A list of up to 4,096 frames on these cards.
  module _ (list : List ℕ) (few : length list ≤ max_frames) (low : (i : ℕ) → i < length list → card_of list i < cards) where
    -- Saved, it is written as save and keep says: cycle by cycle and card by card, and in as many cycles.
    pub saves_write : log new (map save list) ≡ log_of list (save_and_keep m list)
    unfolding save_and_keep
    saves_write = sym (whole.all_saved cards m of-cards of-pool list few low).logs

    pub saves_make : (after new (map save list)).made.0 ≡ (save_and_keep m list).T
    unfolding save_and_keep
    saves_make = (whole.all_saved cards m of-cards of-pool list few low).begun.shows.made

    -- m closing cycles empty the pool; those asked for too many are refused.
    pub closing_empties : (k : ℕ) → m ≤ k → (after new (saved_and_closed list k)).waiting ≡ 0
    closing_empties = whole.m_empties cards m of-cards of-pool list few low

    -- "Saving a list and closing until the pool is empty writes exactly what its save plan says", cycle by cycle and card by card, in T cycles.
    module _ (k : ℕ) (emptied : (after new (saved_and_closed list k)).waiting ≡ 0) where
      pub closing_writes : log new (saved_and_closed list k) ≡ log_of list (greedy_writing m list)
      closing_writes = whole.writes_plan cards m of-cards of-pool list few low k emptied

      pub closing_makes : (after new (saved_and_closed list k)).made.0 ≡ (greedy_writing m list).T
      closing_makes = whole.makes_plan cards m of-cards of-pool list few low k emptied

      -- No correct save schedule of the list has fewer cycles than the saver made.
      pub closing_fewest : (others : List ℕ) → CorrectSave m list others → (after new (saved_and_closed list k)).made.0 ≤ cycles_in others
      closing_fewest others ok = rw closing_makes (save_fewest m list of-pool.0 others ok)

  -- Whatever calls are made, refused ones among them, the pool never holds more than m frames.
  pub pool_kept : (calls : List Call) → (after new calls).waiting ≤ m
  pool_kept = whole.pool_kept cards m of-cards of-pool

-- Whatever calls are made of whichever new saver: each frame saved stands once in all, in one entry of the log or in the pool. So nothing is
-- written twice, nothing that was written still waits, and nothing is lost.
pub each_once : (cards m : ℕ) (calls : List Call) (i : ℕ) → i < (after (new_of cards m).saver calls).taken
    → times_in i (log (new_of cards m).saver calls)
    + times i (take (after (new_of cards m).saver calls).waiting (numbers (after (new_of cards m).saver calls).position))
    ≡ 1
each_once = whole.each_once

-- A new saver shows greedy_writing's plan of no frames, and each call's record the plan of the next step: so the clause `greedy` of the calls'
-- contracts holds from the first call on.
pub new_shows : (list : List ℕ) (cards m : ℕ) → ShowsPlan list empty_plan (new_of cards m).saver
new_shows = opening.new_shows

pub save_follows : (s : Saver) (card : ℕ) → Given s → SaveFollows s card (save_of s card)
save_follows s card g = saving.save_follows s card (given_formed g)

pub close_follows : (s : Saver) → Given s → CloseFollows s (close_of s)
close_follows s g = saving.close_follows s (given_formed g)
