-- The table of specs/Cases.antt, proved by computing, and a correct schedule that is not oldest first.
-- Assumes nothing.
use Prim.Native.Nat.{ℕ, zero, suc, ◌≤◌, ◌<◌}
use mathlib.Core.Path.{◌≡◌, refl}
use mathlib.Core.List.{List, [], ◌∷◌, map}
use native.Mathlib.Omega.{arith}
use Rattle.schedule.specs.Schedule.{cycle_of, o_backlog, CorrectSave}
use Rattle.schedule.specs.Greedy.{save_and_keep, greedy_writing, lazy_prefetching}
use Rattle.schedule.specs.Dock.{run}
use Rattle.schedule.specs.Drive.{outcome, peak, steps_to}
use Rattle.schedule.specs.Verdict.{verdict_on_read, verdict_on_save}
use Rattle.schedule.specs.Cases.{computed, expected, cases}

pub cases_hold : map computed cases ≡ map expected cases
unfolding save_and_keep greedy_writing lazy_prefetching run outcome peak steps_to verdict_on_read verdict_on_save
cases_hold = refl

abbrev newest_first : List ℕ
newest_first = 2 ∷ 1 ∷ []

from_one : (i : ℕ) → i < 2 → 1 ≤ cycle_of newest_first i
from_one zero l = omega arith
from_one (suc zero) l = omega arith
from_one (suc (suc i)) l = absurd (omega arith)

pool_rule : (i : ℕ) → i < 2 → o_backlog newest_first i < 2
pool_rule zero l = omega arith
pool_rule (suc zero) l = omega arith
pool_rule (suc (suc i)) l = absurd (omega arith)

-- Two frames of one card, the second written first: `save_fewest` compares greedy_writing with such schedules too.
pub newest_first_correct : CorrectSave 2 (0 ∷ 0 ∷ []) newest_first
newest_first_correct =
    record {
      proper = record {
        one_each = refl;
        from_one = from_one;
        card_rule = λ i j l k c e.
            let first : i ≡ 0 = omega arith in
            let second : j ≡ 1 = omega arith in
            absurd (omega (arith, rw (first, second) at e));
      };
      pool_rule = pool_rule;
    }
