-- Where the count of a frame ends.
-- Assumes nothing.
use Prim.Native.Nat.{ℕ, suc, ◌-◌, ◌≤◌, ◌<◌}
use mathlib.Core.Path.{◌≡◌, ap}
use mathlib.Core.Bool.{Bool}
use mathlib.Core.List.{List}
use native.Mathlib.Omega.{arith}
use native.Mathlib.Decide.{dec_lt, ℕ_discrete}
use lib.Dec.{leb}
use lib.ListN.{length}
use borrow.Author.Tests.{leb-true, leb-false, lt-leb}
use Rattle.counting.specs.Count.{bit}
use Rattle.counting.proofs.Bits.{bit_le_one}
use Rattle.counting.proofs.Sums.{sum_longer}
use Rattle.counting.proofs.Least.{least_none, least_le, before_least, least_passes}
use Rattle.schedule.specs.Schedule.{cycle_of}
use Rattle.pool_counts.specs.Backlog.{backlog_of, compared, counts, count_among, count_up_to, looked_at}
use Rattle.pool_counts.proofs.Counting.{count_whole}

module _ (save : Bool) (m : ℕ) (cycles : List ℕ) (i : ℕ) where
  abbrev all : ℕ
  all = length (compared save cycles i)

  abbrev enough : ℕ → Bool
  enough k = leb m (count_among save cycles i k)

  pub overfull_at_m : (m ≤ backlog_of save cycles i → count_up_to save m cycles i ≡ m) × (count_up_to save m cycles i ≡ m → m ≤ backlog_of save cycles i)
  overfull_at_m = (λ h. omega arith, λ e. omega arith)

  pub none_too_many : (k : ℕ) → k < looked_at save m cycles i → count_among save cycles i k < m
  none_too_many k l = leb-false m (count_among save cycles i k) (before_least all k enough l)

  -- one frame more adds at most one
  grows : (k : ℕ) → 1 ≤ k → count_among save cycles i k ≤ suc (count_among save cycles i (k - 1))
  grows k l =
      let e : suc (k - 1) ≡ k = omega arith in
      omega (
        arith,
        ap (λ n. count_among save cycles i n) e,
        bit_le_one (counts save (cycle_of cycles i) (cycle_of (compared save cycles i) (k - 1))),
      )

  -- m at most are found
  not_over : count_among save cycles i (looked_at save m cycles i) ≤ m
  not_over =
      let k : ℕ = looked_at save m cycles i in
      elim (ℕ_discrete k 0) [
        | yes e ↦ omega (arith, ap (λ n. count_among save cycles i n) e)
        | no e ↦ omega (arith, grows k (omega arith), none_too_many (k - 1) (omega arith))
      ]

  module _ (l : i < length cycles) where
    pub all_where_none : backlog_of save cycles i < m → looked_at save m cycles i ≡ all
    all_where_none h =
        least_none all enough
        (λ k g.
        lt-leb m (count_among save cycles i k)
        (omega (
          arith,
          h,
          count_whole save cycles i l,
          sum_longer k all (λ j. bit (counts save (cycle_of cycles i) (cycle_of (compared save cycles i) j))) (omega arith),
        )))

    pub looked_counts : count_among save cycles i (looked_at save m cycles i) ≡ count_up_to save m cycles i
    looked_counts =
        let k : ℕ = looked_at save m cycles i in
        elim (dec_lt k all) [
          | yes h ↦
              (let reached : m ≤ count_among save cycles i k = leb-true m (count_among save cycles i k) (least_passes all enough h) in
              omega (
                arith,
                reached,
                not_over,
                count_whole save cycles i l,
                sum_longer k all (λ j. bit (counts save (cycle_of cycles i) (cycle_of (compared save cycles i) j))) (omega arith),
              ))
          | no h ↦
              (let e : k ≡ all = omega (arith, h, least_le all enough) in
              omega (arith, not_over, ap (λ n. count_among save cycles i n) e, count_whole save cycles i l))
        ]
