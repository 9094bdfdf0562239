-- greedy_writing's save as the log sees it, and its closing cycles, however many are asked for.
-- Assumes nothing.
use Prim.Native.Nat.{ℕ, zero, suc}
use mathlib.Core.Path.{◌≡◌, refl, sym, ap, ◌∙◌}
use mathlib.Core.Logic.{◌⊎◌, inl, inr}
use mathlib.Core.List.{List, [], ◌∷◌, ◌++◌}
use native.Mathlib.Omega.{arith}
use lib.Dec.{eqb, ltb}
use borrow.Author.Tests.{eq-eqb, eqb-true}
use Rattle.schedule.specs.Greedy.{Plan, in_pool, enter, one_cycle, save_frame, flush}
use Rattle.counting.proofs.Bits.{by_cases, by_test}
use Rattle.greedy_pool.specs.Log.{entries_of, log_of}
use Rattle.greedy_pool.proofs.Logs.{entries_enter, log_enter, log_cycle}

-- From plan p to plan q no cycle is made and the log stays, or one is made and the log has its entries at the end.
abbrev pub Logged : List ℕ → Plan → Plan → Type 0
Logged cards p q =
    ((q.T ≡ p.T) × (log_of cards q ≡ log_of cards p))
    ⊎ ((q.T ≡ suc p.T) × (log_of cards q ≡ log_of cards p ++ (entries_of cards q.cycles q.T ∷ [])))

pub cycle_logged : (cards : List ℕ) (p : Plan) → Logged cards p (one_cycle cards p)
cycle_logged cards p = inr (refl, log_cycle cards p)

pub save_logged : (cards : List ℕ) (m : ℕ) (p : Plan) → Logged cards p (save_frame cards m p)
save_logged cards m p =
    by_test (λ q. Logged cards p (enter q)) (ltb (in_pool p.cycles) m) p (one_cycle cards p)
    (λ e. inl (refl, log_enter cards p))
    (λ e.
    inr (
      refl,
      log_enter cards (one_cycle cards p)
          ∙ log_cycle cards p
          ∙ ap (λ l. log_of cards p ++ (l ∷ [])) (sym (entries_enter cards (one_cycle cards p) (suc p.T) (omega arith))),
    ))

-- an empty pool needs no closing cycle
pub flush_empty : (cards : List ℕ) (k : ℕ) (p : Plan) → in_pool p.cycles ≡ 0 → flush cards k p ≡ p
flush_empty cards zero p e = refl
flush_empty cards (suc k) p e = rw (eq-eqb (in_pool p.cycles) 0 e)

-- however many closing cycles are asked for: once the pool is empty, the plan is the same
pub flush_done :
    (cards : List ℕ) (k j : ℕ) (p : Plan) → in_pool (flush cards k p).cycles ≡ 0 → in_pool (flush cards j p).cycles ≡ 0
    → flush cards k p ≡ flush cards j p
flush_done cards zero j p a b = sym (flush_empty cards j p a)
flush_done cards (suc k) zero p a b = flush_empty cards (suc k) p b
flush_done cards (suc k) (suc j) p a b =
    by_cases (eqb (in_pool p.cycles) 0)
    (λ e. let z : in_pool p.cycles ≡ 0 = eqb-true (in_pool p.cycles) 0 e in flush_empty cards (suc k) p z ∙ sym (flush_empty cards (suc j) p z))
    (λ e. rw e (flush_done cards k j (one_cycle cards p) (rw e at a) (rw e at b)))
