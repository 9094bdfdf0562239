-- A schedule given by a function, frame by frame: the list of its values is a correct save schedule where the function keeps the rules.
-- Assumes nothing.
use Prim.Native.Nat.{ℕ, ◌≤◌, ◌<◌}
use mathlib.Core.Path.{◌≡◌, sym, ◌∙◌}
use mathlib.Core.List.{List}
use native.Mathlib.Omega.{arith}
use lib.Dec.{leb}
use lib.ListN.{length}
use Rattle.counting.specs.Count.{bit, how_many, tabulate}
use Rattle.counting.specs.Frames.{card_of}
use Rattle.schedule.specs.Schedule.{cycle_of, cycles_in, CorrectSave}
use Rattle.counting.proofs.Sums.{sum_cong}
use Rattle.counting.proofs.Lists.{length_tabulate, get_or_tabulate, largest_le}

module _ (cards : List ℕ) (f : ℕ → ℕ) where
  abbrev L : ℕ
  L = length cards

  table_at : (i : ℕ) → i < L → cycle_of (tabulate L f) i ≡ f i
  table_at i l = get_or_tabulate L f i 0 l

  pub table_correct : (m : ℕ)
      → ((i : ℕ) → i < L → 1 ≤ f i)
      → ((i j : ℕ) → i < j → j < L → card_of cards i ≡ card_of cards j → f i ≡ f j → ⊥)
      → ((i : ℕ) → i < L → how_many i (λ j. leb (f i) (f j)) < m)
      → CorrectSave m cards (tabulate L f)
  table_correct m from apart fits =
      record {
        proper = record {
          one_each = length_tabulate L f;
          from_one = λ i l. rw (table_at i l) (from i l);
          card_rule = λ i j l k c e. apart i j l k c (sym (table_at i (omega arith)) ∙ e ∙ table_at j k);
        };
        pool_rule = λ i l.
            omega (
              arith,
              fits i l,
              sum_cong i (λ j. bit (leb (cycle_of (tabulate L f) i) (cycle_of (tabulate L f) j))) (λ j. bit (leb (f i) (f j)))
                  (λ j k. rw (table_at i l, table_at j (omega arith))),
            );
      }

  -- its cycles are up to t where the function's values are
  pub table_within : (t : ℕ) → ((i : ℕ) → i < L → f i ≤ t) → cycles_in (tabulate L f) ≤ t
  table_within t h =
      largest_le (tabulate L f) t
      (λ i l.
      let inside : i < L = rw (length_tabulate L f) at l in
      rw (table_at i inside) (h i inside))
