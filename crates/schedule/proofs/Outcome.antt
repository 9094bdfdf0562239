-- Runs step by step: the first steps of a list, and where a run is complete.
-- Assumes nothing.
use Prim.Native.Nat.{ℕ, zero, suc, ◌+◌, ◌-◌, ◌≤◌}
use mathlib.Core.Path.{◌≡◌, refl}
use mathlib.Core.Bool.{true, false, cond}
use mathlib.Core.List.{List, [], ◌∷◌, ◌++◌}
use native.Mathlib.Omega.{arith}
use native.Mathlib.Decide.{dec_le}
use lib.ListN.{length, take}
use lib.Seq.{take-append-le, take-append-add, take-nil}
use borrow.Author.Tests.{leb-true, le-leb}
use Rattle.schedule.specs.Dock.{Step, Dock, step, run}
use Rattle.schedule.specs.Drive.{complete, all_delivered, outcome}

module _ (m : ℕ) (cards : List ℕ) where
  pub run_append : (k l : List Step) (d : Dock) → run m cards (k ++ l) d ≡ run m cards l (run m cards k d)
  unfolding run
  run_append [] l d = refl
  run_append (a ∷ k) l d = run_append k l (step m cards a d)

  -- P holds after every first steps of a list
  abbrev pub Throughout : (Dock → Type 0) → List Step → Dock → Type 0
  Throughout P steps d = (n : ℕ) → P (run m cards (take n steps) d)

  pub throughout_none : (P : Dock → Type 0) (d : Dock) → P d → Throughout P [] d
  unfolding run
  throughout_none P d p n = rw (take-nil {A = Step} n) p

  pub throughout_one : (P : Dock → Type 0) (a : Step) (d : Dock) → P d → P (step m cards a d) → Throughout P (a ∷ []) d
  unfolding run
  throughout_one P a d p q zero = p
  throughout_one P a d p q (suc n) = rw (take-nil {A = Step} n) q

  pub throughout_append : (P : Dock → Type 0) (k l : List Step) (d : Dock) → Throughout P k d → Throughout P l (run m cards k d)
      → Throughout P (k ++ l) d
  throughout_append P k l d p q n =
      elim (dec_le n (length k)) [
        | yes h ↦ rw (take-append-le n k l h) (p n)
        | no h ↦
            (let e : n ≡ length k + (n - length k) = omega arith in
            rw (e, take-append-add k l (n - length k), run_append k (take (n - length k) l) d) (q (n - length k)))
      ]

  -- A run that delivers everything is complete, with the cycles ended after some first steps of it that deliver everything.
  pub completes : (steps : List Step) (d : Dock) → length cards ≤ (run m cards steps d).delivered
      → (n : ℕ) × (length cards ≤ (run m cards (take n steps) d).delivered)
      × (outcome m cards steps d ≡ complete (run m cards (take n steps) d).ended)
  unfolding run outcome
  completes [] d h = (0, h, rw (le-leb (length cards) d.delivered h))
  completes (a ∷ steps) d h =
      (elim (all_delivered cards d) as
      (λ b. all_delivered cards d ≡ b → (n : ℕ) × (length cards ≤ (run m cards (take n (a ∷ steps)) d).delivered)
      × (cond b (complete d.ended) (outcome m cards steps (step m cards a d)) ≡ complete (run m cards (take n (a ∷ steps)) d).ended)) [
        | true ↦ λ e. (0, leb-true (length cards) d.delivered e, refl)
        | false ↦ λ e.
            (let r : (n : ℕ) × (length cards ≤ (run m cards (take n steps) (step m cards a d)).delivered)
            × (outcome m cards steps (step m cards a d) ≡ complete (run m cards (take n steps) (step m cards a d)).ended) =
            completes steps (step m cards a d) h in
            (suc r.0, r.1, r.2))
      ])
      refl
