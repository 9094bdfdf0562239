-- How many frames wait, kept by counting how many are due in each cycle. `a i` is the cycle of frame i; t cycles are made.
-- Assumes nothing.
use Prim.Native.Nat.{ℕ, suc, ◌+◌, ◌-◌, ◌≤◌, ◌<◌}
use mathlib.Core.Path.{◌≡◌, sym, ap}
use native.Mathlib.Omega.{arith}
use native.Mathlib.Decide.{ℕ_discrete}
use lib.Dec.{eqb, ltb}
use borrow.Author.Tests.{eq-eqb, ne_eqb, lt-ltb}
use Rattle.counting.specs.Count.{bit, how_many}
use Rattle.counting.proofs.Sums.{sum_cong, sum_add, how_many_le}
use Rattle.counting.proofs.Bits.{eqb_swap, before_or_that}

-- a frame that is to come is to come after one cycle more, or is due in it
later_or_due : (t x : ℕ) → bit (ltb t x) ≡ bit (ltb (suc t) x) + bit (eqb x (suc t))
later_or_due t x = rw (eqb_swap x (suc t)) (before_or_that t x)

-- w of the first n frames wait, and `due u` have cycle u, for each u below K
pub record Counts (K n t : ℕ) (a due : ℕ → ℕ) (w : ℕ) : Type 0 where
  pub waiting : w ≡ how_many n (λ i. ltb t (a i))
  pub each : (u : ℕ) → u < K → due u ≡ how_many n (λ i. eqb (a i) u)

module _ {K n t : ℕ} {a due : ℕ → ℕ} {w : ℕ} (v : Counts K n t a due w) where
  pub waiting_le : w ≤ n
  waiting_le = omega (arith, v.waiting, how_many_le n (λ i. ltb t (a i)))

  pub due_le : (u : ℕ) → u < K → due u ≤ n
  due_le u l = omega (arith, v.each u l, how_many_le n (λ i. eqb (a i) u))

  -- the frames that wait are those that wait one cycle longer and those due in it
  pub waiting_splits : suc t < K → w ≡ how_many n (λ i. ltb (suc t) (a i)) + due (suc t)
  waiting_splits l =
      omega (
        arith,
        v.waiting,
        v.each (suc t) l,
        sum_cong n (λ i. bit (ltb t (a i))) (λ i. bit (ltb (suc t) (a i)) + bit (eqb (a i) (suc t))) (λ i k. later_or_due t (a i)),
        sum_add n (λ i. bit (ltb (suc t) (a i))) (λ i. bit (eqb (a i) (suc t))),
      )

  pub counts_cycle : suc t < K → Counts K n (suc t) a due (w - due (suc t))
  counts_cycle l = record { waiting = omega (arith, waiting_splits l); each = v.each }

  pub counts_enter :
      {a' due' : ℕ → ℕ} → ((i : ℕ) → i < n → a' i ≡ a i) → t < a' n → due' (a' n) ≡ due (a' n) + 1
      → ((u : ℕ) → (u ≡ a' n → ⊥) → due' u ≡ due u) → Counts K (suc n) t a' due' (w + 1)
  counts_enter {a'} {due'} old new here there =
      record {
        waiting =
            omega (
              arith,
              v.waiting,
              ap bit (lt-ltb t (a' n) new),
              sum_cong n (λ i. bit (ltb t (a' i))) (λ i. bit (ltb t (a i))) (λ i l. rw (old i l)),
            );
        each = λ u l.
            let same : how_many n (λ i. eqb (a' i) u) ≡ how_many n (λ i. eqb (a i) u) =
            sum_cong n (λ i. bit (eqb (a' i) u)) (λ i. bit (eqb (a i) u)) (λ i l. rw (old i l)) in
            elim (ℕ_discrete u (a' n)) [
              | yes e ↦ omega (arith, v.each u l, ap bit (eq-eqb (a' n) u (sym e)), ap due e, ap due' e)
              | no e ↦ omega (arith, v.each u l, ap bit (ne_eqb (a' n) u (λ q. e (sym q))), there u e)
            ];
      }
