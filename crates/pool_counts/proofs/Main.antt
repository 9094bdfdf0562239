-- The public theorems about the count in the pool rule (request 2026-03), for every plan, every frame of it and every m. What `backlog` answers
-- equals `count_up_to` and `looked_at` (its contract, src/backlog.rt); the definitions are in specs/Backlog.antt.
-- Assumes nothing.
use Prim.Native.Nat.{ℕ, ◌≤◌, ◌<◌}
use mathlib.Core.Path.{◌≡◌}
use mathlib.Core.Bool.{Bool}
use mathlib.Core.List.{List, map}
use lib.ListN.{length}
use Rattle.pool_counts.specs.Backlog.{backlog_of, compared, count_among, count_up_to, looked_at}
use Rattle.pool_counts.specs.Cases.{answered, expected, cases}
use Rattle.pool_counts.proofs.Counting as counting
use Rattle.pool_counts.proofs.Ends as ends
use Rattle.pool_counts.proofs.Cases as table

module _ (save : Bool) (m : ℕ) (cycles : List ℕ) (i : ℕ) (l : i < length cycles) where
  -- The rule's frames, all of them: those that count are the full count of the paper's oBacklog or iBacklog.
  pub count_whole : count_among save cycles i (length (compared save cycles i)) ≡ backlog_of save cycles i
  count_whole = counting.count_whole save cycles i l

  -- "a frame is known to be overfull once the count in its pool rule reaches m": the count answered is m exactly where m or more count.
  pub overfull_at_m : (m ≤ backlog_of save cycles i → count_up_to save m cycles i ≡ m) × (count_up_to save m cycles i ≡ m → m ≤ backlog_of save cycles i)
  overfull_at_m = ends.overfull_at_m save m cycles i

  -- Among the frames looked at, as many count as are answered.
  pub looked_counts : count_among save cycles i (looked_at save m cycles i) ≡ count_up_to save m cycles i
  looked_counts = ends.looked_counts save m cycles i l

  -- "up to and with the one that made it m": among fewer of them, fewer than m count,
  pub none_too_many : (k : ℕ) → k < looked_at save m cycles i → count_among save cycles i k < m
  none_too_many = ends.none_too_many save m cycles i

  -- "or all where none does".
  pub all_where_none : backlog_of save cycles i < m → looked_at save m cycles i ≡ length (compared save cycles i)
  all_where_none = ends.all_where_none save m cycles i l

-- The table of cases.
pub cases_hold : map answered cases ≡ map expected cases
cases_hold = table.cases_hold
