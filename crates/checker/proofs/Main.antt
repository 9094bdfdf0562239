-- The public theorems about `check`. Its contract (src/lib.rt) states the same for each call.
-- Assumes nothing.
use Prim.Native.Nat.{ℕ, ◌≤◌}
use mathlib.Core.Path.{◌≡◌}
use mathlib.Core.List.{List, map}
use Rattle.schedule.specs.Cases.{Case, expected, cases}
use Rattle.schedule.specs.Greedy.{greedy_writing, lazy_prefetching}
use Rattle.schedule.specs.Drive.{buffers_needed}
use Rattle.counting.specs.declared.Cycle.{Cycle}
use Rattle.header.specs.Limits.{mode_read, mode_save}
use Rattle.header.specs.declared.Header.{Header}
use Rattle.ticket.specs.Ticket.{accepted, parse}
use Rattle.checker.specs.Check.{check_of}
use Rattle.checker.specs.Numbers.{numbers_of}
use Rattle.checker.specs.Exact.{Exact}
use Rattle.checker.specs.Cases.{told, asked}
use Rattle.checker.specs.declared.Verdict.{Verdict}
use Rattle.checker.specs.declared.Verdict.TheVariants.{Valid}
use Rattle.std.specs.Prelude.{Result, Ok}
use Rattle.checker.proofs.Cases as table
use Rattle.checker.proofs.Accepts as accepts

-- Every answer that equals the definition, for whichever ticket and plan, is valid exactly when the plan meets the paper's conditions, and
-- otherwise names the lowest position at fault, and of its faults the first; a read's peak decides for which pools its plan is valid.
pub check_exact :
    (t cycles : List ℕ) (r : Result Verdict ℕ) → r ≡ check_of (parse t) cycles → Exact t cycles (numbers_of r).verdict (numbers_of r).position.0 (numbers_of r).peak
check_exact = accepts.exact

-- Our own plans are valid, with their T: the read plan also with the peak of its run on a dock with a buffer for every frame.
module _ (t : List ℕ) (h : Header) (cards : List ℕ) (e : parse t ≡ accepted h cards) where
  pub own_read_valid :
      h.mode ≡ mode_read
      → check_of (parse t) (lazy_prefetching h.pool cards).cycles
      ≡ Ok (Valid (record { 0 = (lazy_prefetching h.pool cards).T }) (buffers_needed cards (lazy_prefetching h.pool cards).cycles))
  own_read_valid = accepts.own_read t h cards e

  -- and that peak is at most the ticket's pool.
  pub own_read_peak : h.mode ≡ mode_read → (numbers_of (check_of (parse t) (lazy_prefetching h.pool cards).cycles)).peak ≤ h.pool
  own_read_peak = accepts.own_read_peak t h cards e

  pub own_save_valid :
      h.mode ≡ mode_save → check_of (parse t) (greedy_writing h.pool cards).cycles ≡ Ok (Valid (record { 0 = (greedy_writing h.pool cards).T }) 0)
  own_save_valid = accepts.own_save t h cards e

-- The peak of a valid read plan is the smallest pool for which it is valid: for any other read ticket of the same list, whatever its pool, the
-- plan is valid exactly where the pool is not below the peak, and then with the same T and peak.
module _ (t t' : List ℕ) (h h' : Header) (cards cycles : List ℕ) (T : Cycle) (p : ℕ) where
  pub valid_from_peak :
      parse t ≡ accepted h cards → parse t' ≡ accepted h' cards → h.mode ≡ mode_read → h'.mode ≡ mode_read → check_of (parse t) cycles ≡ Ok (Valid T p)
      → (p ≤ h'.pool → check_of (parse t') cycles ≡ Ok (Valid T p)) × ((T' : Cycle) (p' : ℕ) → check_of (parse t') cycles ≡ Ok (Valid T' p') → p ≤ h'.pool)
  valid_from_peak a a' q q' v = (
    accepts.valid_there t t' h h' cards cycles T p a a' q q' v,
    accepts.peak_there t t' h h' cards cycles T p a a' q q' v,
  )

-- The starred verdicts of document 01 hold of a call that is given the ticket and the plan, and so do the table's other verdicts.
pub verdicts_hold : map asked cases ≡ map (λ (x : Case). told (expected x)) cases
verdicts_hold = table.verdicts_hold
