-- Counting with `how_many` after one test is changed, and after the frames handed over are left out.
-- Assumes nothing.
use Prim.Native.Nat.{ℕ, zero, suc, ◌+◌, ◌≤◌, ◌<◌}
use mathlib.Core.Path.{◌≡◌, refl, ap}
use mathlib.Core.Bool.{Bool, true, false, ◌&&◌, and-false}
use native.Mathlib.Omega.{arith}
use native.Mathlib.Decide.{ℕ_discrete, dec_le}
use lib.Dec.{leb}
use borrow.Author.Tests.{eq-eqb, ne_eqb, le-leb, lt-leb}
use Rattle.counting.specs.Count.{bit, how_many}
use Rattle.schedule.specs.Dock.{put}
use Rattle.counting.proofs.Bits.{by_cases}
use Rattle.counting.proofs.Sums.{sum_cong}

-- a number not below n does not count
put_past : (n i : ℕ) (t : ℕ → Bool) (b : Bool) → n ≤ i → how_many n (put t i b) ≡ how_many n t
put_past n i t b h =
    sum_cong n (λ j. bit (put t i b j)) (λ j. bit (t j))
    (λ j l. let q : j ≡ i → ⊥ = omega arith in rw (ne_eqb j i q))

pub put_count : (n i : ℕ) (t : ℕ → Bool) (b : Bool) → i < n → how_many n (put t i b) + bit (t i) ≡ how_many n t + bit b
put_count zero i t b h = omega arith
put_count (suc n) i t b h =
    elim (ℕ_discrete i n) [
      | yes e ↦ rw (e, eq-eqb n n refl) (omega (arith, put_past n n t b (omega arith)))
      | no e ↦ (let q : n ≡ i → ⊥ = omega arith in rw (ne_eqb n i q) (omega (arith, put_count n i t b (omega arith))))
    ]

-- Those that pass are none below `from`, and all from there to from + k: without these k fewer are counted.
module _ (n from : ℕ) (t : ℕ → Bool) (none_below : (i : ℕ) → i < n → t i ≡ true → from ≤ i) where
  nothing_left_out : how_many n (λ i. t i && leb from i) ≡ how_many n t
  nothing_left_out =
      sum_cong n (λ i. bit (t i && leb from i)) (λ i. bit (t i))
      (λ i l. by_cases (t i) (λ e. rw (e, le-leb from i (none_below i l e))) (λ e. rw e))

  one_left_out : (k i : ℕ) → bit (put (λ j. t j && leb (from + k) j) (from + k) false i) ≡ bit (t i && leb (from + suc k) i)
  one_left_out k i =
      elim (ℕ_discrete i (from + k)) [
        | yes e ↦ (let l : i < from + suc k = omega arith in rw (eq-eqb i (from + k) e, lt-leb (from + suc k) i l, and-false (t i)))
        | no e ↦
            elim (dec_le (from + k) i) [
              | yes g ↦ (let l : from + suc k ≤ i = omega arith in rw (ne_eqb i (from + k) e, le-leb (from + k) i g, le-leb (from + suc k) i l))
              | no g ↦
                  (let h : i < from + k = omega arith in
                  let l : i < from + suc k = omega arith in
                  rw (ne_eqb i (from + k) e, lt-leb (from + k) i h, lt-leb (from + suc k) i l))
            ]
      ]

  pub left_out : (k : ℕ) → from + k ≤ n → ((i : ℕ) → from ≤ i → i < from + k → t i ≡ true)
      → how_many n (λ i. t i && leb (from + k) i) + k ≡ how_many n t
  left_out zero l h = let e : from + 0 ≡ from = omega arith in rw e (omega (arith, nothing_left_out))
  left_out (suc k) l h =
      let here : (t (from + k) && leb (from + k) (from + k)) ≡ true =
      rw (h (from + k) (omega arith) (omega arith), le-leb (from + k) (from + k) (omega arith)) in
      omega (
        arith,
        left_out k (omega arith) (λ i g j. h i g (omega arith)),
        put_count n (from + k) (λ i. t i && leb (from + k) i) false (omega arith),
        ap bit here,
        sum_cong n (λ i. bit (put (λ j. t j && leb (from + k) j) (from + k) false i)) (λ i. bit (t i && leb (from + suc k) i)) (λ i g. one_left_out k i),
      )
