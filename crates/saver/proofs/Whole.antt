-- A list saved and closed, from a new saver to an empty pool; and any calls of a new saver.
-- Assumes nothing.
use Prim.Native.Nat.{ℕ, ◌+◌, ◌≤◌, ◌<◌}
use mathlib.Core.Path.{◌≡◌, refl, sym, ap, ◌∙◌}
use mathlib.Core.Bool.{false}
use mathlib.Core.List.{List, ◌++◌, map}
use native.Mathlib.Omega.{arith}
use lib.ListN.{length, take, replicate}
use Rattle.counting.specs.Frames.{card_of}
use Rattle.schedule.specs.Greedy.{Plan, in_pool, empty_plan, save_first, flush, save_and_keep, greedy_writing}
use Rattle.header.specs.Limits.{max_cards, max_pool, max_frames, Within}
use Rattle.greedy_pool.specs.Log.{log_of, times, times_in}
use Rattle.greedy_pool.proofs.Saves.{flush_done}
use Rattle.greedy_pool.proofs.Once.{once}
use Rattle.saver.specs.declared.Saver.{Saver}
use Rattle.saver.specs.declared.Answer.{Answer}
use Rattle.saver.specs.Calls.{numbers, new_saver, new_of}
use Rattle.saver.specs.Formed.{Formed}
use Rattle.saver.specs.Follows.{ShowsPlan}
use Rattle.saver.specs.Runs.{Call, save, close, after, log, accepted, saved_and_closed}
use Rattle.saver.proofs.Opening.{new_shows, new_is}
use Rattle.saver.proofs.Forming.{formed_opened}
use Rattle.saver.proofs.Runs.{after_append, log_append}
use Rattle.saver.proofs.AnyCalls.{Shown, calls_shown, accepted_low, formed_after}
use Rattle.saver.proofs.ListSaved.{Begun, Saved, saved, Closed, closed, closed_empty}

module _ (cards m : ℕ) (of-cards : Within max_cards cards) (of-pool : Within max_pool m) where
  abbrev new : Saver
  new = (new_of cards m).saver

  opened : new ≡ new_saver cards m false
  opened = ap (λ (r : Answer). r.saver) (new_is cards m of-cards of-pool)

  module _ (list : List ℕ) (few : length list ≤ max_frames) (low : (i : ℕ) → i < length list → card_of list i < cards) where
    L : ℕ
    L = length list

    begun : Begun list m cards few low 0 new
    begun =
        record {
          formed = formed_opened cards m;
          not_closing = ap (λ (s : Saver). s.closing) opened;
          pool = ap (λ (s : Saver). s.pool) opened;
          cards = ap (λ (s : Saver). s.cards) opened;
          shows = new_shows list cards m;
          taken = ap (λ (s : Saver). s.taken) opened;
        }

    pub all_saved : Saved list m cards few low 0 new list
    all_saved = saved list m cards few low list 0 new begun (omega arith) refl

    abbrev full : Saver
    full = after new (map save list)

    abbrev kept : Plan
    kept = save_first list m (length list)

    all_closed : (k : ℕ) → Closed list k kept full
    all_closed k = closed list k kept full all_saved.begun.formed all_saved.begun.shows

    record_after : (k : ℕ) → after new (saved_and_closed list k) ≡ after full (replicate k close)
    record_after k = after_append new (map save list) (replicate k close)

    empties : (k : ℕ) → full.waiting ≤ k → (after new (saved_and_closed list k)).waiting ≡ 0
    empties k h = ap (λ (s : Saver). s.waiting) (record_after k) ∙ closed_empty list k full all_saved.begun.formed h

    pub m_empties : (k : ℕ) → m ≤ k → (after new (saved_and_closed list k)).waiting ≡ 0
    m_empties k h = empties k (omega (arith, all_saved.begun.formed.fits_pool, all_saved.begun.pool))

    pool_after : (k : ℕ) → (after new (saved_and_closed list k)).waiting ≡ 0 → in_pool (flush list k kept).cycles ≡ 0
    pool_after k e = sym (all_closed k).shows.waiting ∙ ap (λ (s : Saver). s.waiting) (sym (record_after k)) ∙ e

    module _ (k : ℕ) (emptied : (after new (saved_and_closed list k)).waiting ≡ 0) where
      all_frames : flush list k kept ≡ greedy_writing m list
      unfolding greedy_writing save_and_keep
      all_frames =
          flush_done list k (length list) kept (pool_after k emptied)
          (pool_after (length list)
          (empties (length list) (omega (arith, all_saved.begun.formed.all_taken, all_saved.begun.taken))))

      pub writes_plan : log new (saved_and_closed list k) ≡ log_of list (greedy_writing m list)
      writes_plan =
          log_append new (map save list) (replicate k close)
          ∙ ap (λ l. l ++ log full (replicate k close)) (sym all_saved.logs)
          ∙ sym (all_closed k).logs
          ∙ ap (log_of list) all_frames

      pub makes_plan : (after new (saved_and_closed list k)).made.0 ≡ (greedy_writing m list).T
      makes_plan = ap (λ (s : Saver). s.made.0) (record_after k) ∙ (all_closed k).shows.made ∙ ap (λ (p : Plan). p.T) all_frames

  pub pool_kept : (calls : List Call) → (after new calls).waiting ≤ m
  pool_kept calls =
      let f : Formed (after new calls) × ((after new calls).pool ≡ new.pool) = formed_after calls new (formed_opened cards m) in
      omega (arith, f.0.fits_pool, f.1, ap (λ (s : Saver). s.pool) opened)

-- any calls: the plan of the frames saved has each of them once, in its log or in its pool
module _ (cards m : ℕ) (calls : List Call) where
  abbrev first : Saver
  first = (new_of cards m).saver

  abbrev last : Saver
  last = after first calls

  abbrev list : List ℕ
  list = accepted first calls

  none_taken : first.taken ≡ 0
  none_taken = (new_shows list cards m).taken

  shown : Shown list empty_plan last (log first calls)
  shown = calls_shown list calls first empty_plan (formed_opened cards m) (new_shows list cards m) (rw none_taken)

  pub each_once : (i : ℕ) → i < last.taken → times_in i (log first calls) + times i (take last.waiting (numbers last.position)) ≡ 1
  each_once i l =
      let v : ShowsPlan list shown.0 last = shown.1 in
      let few : last.taken ≤ max_frames = (formed_after calls first (formed_opened cards m)).0.few_taken in
      rw (v.positions, ← shown.2)
      (once list shown.0 v.told (λ j h. accepted_low calls first (formed_opened cards m) j) (omega (arith, v.taken)) i (omega (arith, v.taken)))
