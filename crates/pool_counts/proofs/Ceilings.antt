-- The largest cycle of the frames so far: a frame that is not ahead of them all is covered by one of them.
-- Assumes nothing.
use Prim.Native.Nat.{ℕ, suc, ◌+◌, ◌≤◌, ◌<◌}
use mathlib.Core.Path.{◌≡◌}
use mathlib.Core.List.{List}
use native.Mathlib.Omega.{arith}
use native.Mathlib.Decide.{ℕ_discrete}
use Rattle.schedule.specs.Schedule.{cycle_of}

-- one more than the largest cycle of the first i frames, 0 for none
pub record Ceiling (cycles : List ℕ) (i ceiling : ℕ) : Type 0 where
  pub under : (j : ℕ) → j < i → cycle_of cycles j < ceiling
  pub met : 1 ≤ ceiling → (j : ℕ) × (j < i) × (suc (cycle_of cycles j) ≡ ceiling)

pub ceiling_first : (cycles : List ℕ) → Ceiling cycles 0 0
ceiling_first cycles = record { under = λ j l. absurd (omega arith); met = λ l. absurd (omega arith) }

module _ {cycles : List ℕ} {i ceiling : ℕ} (v : Ceiling cycles i ceiling) {c : ℕ} (c-is : c ≡ cycle_of cycles i) where
  -- frame i is ahead
  module _ (h : ceiling ≤ c) where
    pub ahead : (j : ℕ) → j < i → cycle_of cycles j < cycle_of cycles i
    ahead j k = omega (arith, v.under j k)

    pub ceiling_up : Ceiling cycles (i + 1) (c + 1)
    ceiling_up =
        record {
          under = λ j k. elim (ℕ_discrete j i) [ yes e ↦ rw e (omega arith) | no e ↦ omega (arith, v.under j (omega arith)) ];
          met = λ k. (i, omega arith, omega arith);
        }

  -- or it is not
  module _ (h : c < ceiling) where
    pub covering : (j : ℕ) × (j < i) × (cycle_of cycles i ≤ cycle_of cycles j)
    covering = let r = v.met (omega arith) in (r.0, r.1, omega (arith, r.2))

    pub ceiling_stays : Ceiling cycles (i + 1) ceiling
    ceiling_stays =
        let r = v.met (omega arith) in
        record {
          under = λ j k. elim (ℕ_discrete j i) [ yes e ↦ rw e (omega arith) | no e ↦ v.under j (omega arith) ];
          met = λ k. (r.0, omega (arith, r.1), r.2);
        }
