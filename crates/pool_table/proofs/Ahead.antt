-- The count of a frame that is ahead of all earlier ones, from the table of cycles.
-- Assumes nothing.
use Prim.Native.Nat.{ℕ, suc, ◌+◌, ◌≤◌, ◌<◌}
use mathlib.Core.Path.{◌≡◌}
use mathlib.Core.Bool.{◌&&◌}
use mathlib.Core.List.{List}
use native.Mathlib.Omega.{arith}
use native.Mathlib.Decide.{dec_le, ℕ_discrete}
use lib.Dec.{leb, ltb}
use lib.ListN.{length}
use borrow.Author.Tests.{lt-ltb, le-ltb, le-leb}
use Rattle.counting.specs.Count.{bit}
use Rattle.schedule.specs.Schedule.{cycle_of, i_backlog}
use Rattle.counting.proofs.Sums.{sum_cong, sum_add, all_below}
use Rattle.pool_table.specs.Table.{cycles_up_to}

module _ (cycles : List ℕ) where
  abbrev cyc : ℕ → ℕ
  cyc = cycle_of cycles

  -- a frame with a later cycle than all earlier frames
  module _ (i : ℕ) (l : i < length cycles) (ahead : (j : ℕ) → j < i → cyc j < cyc i) where
    up_to : (j : ℕ) → bit (leb (cyc j) (cyc i)) ≡ bit (ltb j (suc i)) + bit (ltb i j && leb (cyc j) (cyc i))
    up_to j =
        elim (dec_le j i) [
          | yes h ↦
              (let a : cyc j ≤ cyc i = elim (ℕ_discrete j i) [ yes e ↦ rw e (omega arith) | no e ↦ omega (arith, ahead j (omega arith)) ] in
              rw (le-leb (cyc j) (cyc i) a, lt-ltb j (suc i) (omega arith), le-ltb i j h))
          | no h ↦ rw (le-ltb j (suc i) (omega arith), lt-ltb i j (omega arith)) (omega arith)
        ]

    pub backlog_ahead : cycles_up_to cycles (cyc i) ≡ suc i + i_backlog cycles i
    backlog_ahead =
        omega (
          arith,
          sum_cong (length cycles) (λ j. bit (leb (cyc j) (cyc i))) (λ j. bit (ltb j (suc i)) + bit (ltb i j && leb (cyc j) (cyc i))) (λ j h. up_to j),
          sum_add (length cycles) (λ j. bit (ltb j (suc i))) (λ j. bit (ltb i j && leb (cyc j) (cyc i))),
          all_below (length cycles) (suc i) l,
        )
