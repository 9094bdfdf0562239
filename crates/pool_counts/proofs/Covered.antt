-- Frames whose count is no larger than another's: in a read one that is not ahead of all earlier frames, in a save one that is not behind all later
-- ones. They need no count of their own.
-- Assumes nothing.
use Prim.Native.Nat.{ℕ, ◌≤◌, ◌<◌}
use mathlib.Core.Bool.{◌&&◌}
use mathlib.Core.List.{List}
use native.Mathlib.Omega.{arith}
use lib.Dec.{leb, ltb}
use lib.ListN.{length}
use borrow.Author.Tests.{lt-ltb, le-leb, ltb-true, leb-true}
use Rattle.counting.specs.Count.{bit}
use Rattle.counting.proofs.Bits.{and_left, and_right, bit_mono}
use Rattle.counting.proofs.Sums.{sum_mono, sum_longer}
use Rattle.schedule.specs.Schedule.{cycle_of, o_backlog, i_backlog}

module _ (cycles : List ℕ) where
  abbrev cyc : ℕ → ℕ
  cyc = cycle_of cycles

  -- a frame after one with the same or a later cycle
  pub backlog_covered : (i j : ℕ) → j < i → cyc i ≤ cyc j → i_backlog cycles i ≤ i_backlog cycles j
  backlog_covered i j l h =
      sum_mono (length cycles) (λ k. bit (ltb i k && leb (cyc k) (cyc i))) (λ k. bit (ltb j k && leb (cyc k) (cyc j)))
      (λ k inside.
      bit_mono (ltb i k && leb (cyc k) (cyc i)) (ltb j k && leb (cyc k) (cyc j))
      (λ e.
      let a : i < k = ltb-true i k (and_left (ltb i k) (leb (cyc k) (cyc i)) e) in
      let b : cyc k ≤ cyc i = leb-true (cyc k) (cyc i) (and_right (ltb i k) (leb (cyc k) (cyc i)) e) in
      rw (lt-ltb j k (omega arith), le-leb (cyc k) (cyc j) (omega arith))))

  -- a frame before one with the same or an earlier cycle
  pub save_covered : (i j : ℕ) → i < j → cyc j ≤ cyc i → o_backlog cycles i ≤ o_backlog cycles j
  save_covered i j l h =
      omega (
        arith,
        sum_mono i (λ k. bit (leb (cyc i) (cyc k))) (λ k. bit (leb (cyc j) (cyc k)))
            (λ k g.
            bit_mono (leb (cyc i) (cyc k)) (leb (cyc j) (cyc k))
            (λ e. let a : cyc i ≤ cyc k = leb-true (cyc i) (cyc k) e in le-leb (cyc j) (cyc k) (omega arith))),
        sum_longer i j (λ k. bit (leb (cyc j) (cyc k))) (omega arith),
      )
