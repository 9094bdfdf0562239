-- The least number below n that passes a test.
-- Assumes nothing.
use Prim.Native.Nat.{ℕ, zero, suc, ◌≤◌, ◌<◌}
use mathlib.Core.Path.{◌≡◌, refl, ap}
use mathlib.Core.Bool.{Bool, true, false}
use native.Mathlib.Omega.{arith}
use Rattle.counting.specs.Count.{least}
use Rattle.counting.proofs.Bits.{by_cases}

-- which number it is
pub least_found : (n k : ℕ) (t : ℕ → Bool) → k < n → t k ≡ true → ((j : ℕ) → j < k → t j ≡ false) → least n t ≡ k
least_found zero k t l h none = absurd (omega arith)
least_found (suc n) zero t l h none = rw h
least_found (suc n) (suc k) t l h none =
    rw (none 0 (omega arith)) (ap suc (least_found n k (λ i. t (suc i)) (omega arith) h (λ j g. none (suc j) (omega arith))))

pub least_none : (n : ℕ) (t : ℕ → Bool) → ((j : ℕ) → j < n → t j ≡ false) → least n t ≡ n
least_none zero t none = refl
least_none (suc n) t none = rw (none 0 (omega arith)) (ap suc (least_none n (λ i. t (suc i)) (λ j l. none (suc j) (omega arith))))

-- what it says
pub least_le : (n : ℕ) (t : ℕ → Bool) → least n t ≤ n
least_le zero t = omega arith
least_le (suc n) t = by_cases (t 0) (λ e. rw e (omega arith)) (λ e. rw e (omega (arith, least_le n (λ i. t (suc i)))))

pub before_least : (n k : ℕ) (t : ℕ → Bool) → k < least n t → t k ≡ false
before_least zero k t l = absurd (omega arith)
before_least (suc n) zero t l = by_cases (t 0) (λ e. absurd (let g : 0 < 0 = rw e at l in omega arith)) (λ e. e)
before_least (suc n) (suc k) t l =
    by_cases (t 0)
    (λ e. absurd (let g : suc k < 0 = rw e at l in omega arith))
    (λ e. let g : suc k < suc (least n (λ i. t (suc i))) = rw e at l in before_least n k (λ i. t (suc i)) (omega arith))

pub least_passes : (n : ℕ) (t : ℕ → Bool) → least n t < n → t (least n t) ≡ true
least_passes zero t l = absurd (omega arith)
least_passes (suc n) t l =
    by_cases (t 0)
    (λ e. rw e e)
    (λ e. let g : suc (least n (λ i. t (suc i))) < suc n = rw e at l in rw e (least_passes n (λ i. t (suc i)) (omega arith)))
