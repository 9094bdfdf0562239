-- Laws of `deliver`, the frames that the end of a cycle hands over.
-- Assumes nothing.
use Prim.Native.Nat.{ℕ, zero, suc, ◌+◌, ◌≤◌, ◌<◌}
use mathlib.Core.Path.{◌≡◌, refl}
use mathlib.Core.Bool.{Bool, true, false, cond}
use native.Mathlib.Omega.{arith}
use native.Mathlib.Decide.{ℕ_discrete}
use Rattle.schedule.specs.Dock.{deliver}

pub deliver_from : (held : ℕ → Bool) (k n : ℕ) → n ≤ deliver held k n
deliver_from held zero n = omega arith
deliver_from held (suc k) n =
    elim (held n) as (λ b. n ≤ cond b (deliver held k (suc n)) n) [ true ↦ omega (arith, deliver_from held k (suc n)) | false ↦ omega arith ]

pub deliver_within : (held : ℕ → Bool) (k n : ℕ) → deliver held k n ≤ n + k
deliver_within held zero n = omega arith
deliver_within held (suc k) n =
    elim (held n) as (λ b. cond b (deliver held k (suc n)) n ≤ n + suc k) [ true ↦ omega (arith, deliver_within held k (suc n)) | false ↦ omega arith ]

pub deliver_stops : (held : ℕ → Bool) (k n : ℕ) → deliver held k n < n + k → held (deliver held k n) ≡ false
deliver_stops held zero n l = absurd (omega arith)
deliver_stops held (suc k) n l =
    (elim (held n) as (λ b. held n ≡ b → cond b (deliver held k (suc n)) n < n + suc k → held (cond b (deliver held k (suc n)) n) ≡ false) [
      | true ↦ λ e g. deliver_stops held k (suc n) (omega arith)
      | false ↦ λ e g. e
    ])
    refl l

-- what the end of a cycle delivers was held
pub deliver_held : (held : ℕ → Bool) (k n i : ℕ) → n ≤ i → i < deliver held k n → held i ≡ true
deliver_held held zero n i l g = let z : ◌≡◌ {A = ℕ} 0 1 = omega arith in absurd (omega arith)
deliver_held held (suc k) n i l g =
    (elim (held n) as (λ b. held n ≡ b → i < cond b (deliver held k (suc n)) n → held i ≡ true) [
      | true ↦ λ e g'. elim (ℕ_discrete i n) [ yes q ↦ rw q e | no q ↦ deliver_held held k (suc n) i (omega arith) g' ]
      | false ↦ λ e g'. absurd (omega arith)
    ])
    refl g
