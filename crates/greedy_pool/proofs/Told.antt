-- What holds of a plan throughout greedy_writing, as far as its log needs it.
-- Assumes nothing.
use Prim.Native.Nat.{ℕ, ◌≤◌, ◌<◌, zero-le}
use mathlib.Core.Path.{◌≡◌, refl, ◌∙◌}
use mathlib.Core.List.{List}
use native.Mathlib.Omega.{arith}
use native.Mathlib.Decide.{dec_lt}
use lib.ListN.{length}
use Rattle.counting.specs.Frames.{card_of}
use Rattle.schedule.specs.Schedule.{cycle_of}
use Rattle.schedule.specs.Greedy.{Plan, empty_plan, enter, one_cycle}
use Rattle.schedule.proofs.Pool.{made_next, card_rule_next}
use Rattle.greedy_pool.specs.Log.{Told}
use Rattle.greedy_pool.proofs.Next.{enter_length, enter_old, enter_new, next_length, next_cycle}

pub told_empty : (cards : List ℕ) → Told cards empty_plan
told_empty cards = record { cycles_made = λ i l. zero-le; card_rule = λ i j l k c e. refl }

-- a frame enters: it has no cycle
pub told_enter : (cards : List ℕ) (p : Plan) → Told cards p → Told cards (enter p)
told_enter cards p v = record { cycles_made = made; card_rule = rule }
  where
    new : (i : ℕ) → i < length (enter p).cycles → ¬ (i < length p.cycles) → cycle_of (enter p).cycles i ≡ 0
    new i l g = (let e : i ≡ length p.cycles = omega (arith, enter_length p) in rw e (enter_new p))

    made : (i : ℕ) → i < length (enter p).cycles → cycle_of (enter p).cycles i ≤ p.T
    made i l =
        elim (dec_lt i (length p.cycles)) [
          | yes g ↦ rw (enter_old p i g) (v.cycles_made i g)
          | no g ↦ rw (new i l g) zero-le
        ]

    rule : (i j : ℕ) → i < j → j < length (enter p).cycles → card_of cards i ≡ card_of cards j
        → cycle_of (enter p).cycles i ≡ cycle_of (enter p).cycles j → cycle_of (enter p).cycles i ≡ 0
    rule i j l k c e =
        elim (dec_lt j (length p.cycles)) [
          | yes g ↦
              (let a : cycle_of (enter p).cycles i ≡ cycle_of p.cycles i = enter_old p i (omega arith) in
              a ∙ v.card_rule i j l g c (omega (arith, enter_old p j g)))
          | no g ↦ e ∙ new j k g
        ]

-- one cycle
pub told_cycle : (cards : List ℕ) (p : Plan) → Told cards p → Told cards (one_cycle cards p)
told_cycle cards p v =
    record {
      cycles_made = λ i l. made_next cards n y p.T y' (next_cycle cards p) v.cycles_made i (rw (next_length cards p) at l);
      card_rule = λ i j l k. card_rule_next cards n y p.T y' (next_cycle cards p) v.cycles_made v.card_rule i j l (rw (next_length cards p) at k);
    }
  where
    n : ℕ
    n = length p.cycles

    y : ℕ → ℕ
    y = cycle_of p.cycles

    y' : ℕ → ℕ
    y' = cycle_of (one_cycle cards p).cycles
