-- Looking for the first frame without a cycle of its own, from the first frame on.
-- Assumes nothing.
use Prim.Native.Nat.{ℕ, ◌+◌, ◌≤◌, ◌<◌}
use mathlib.Core.Path.{◌≡◌, sym}
use mathlib.Core.Logic.{◌≢◌}
use mathlib.Core.Bool.{true, false}
use mathlib.Core.List.{List}
use native.Mathlib.Omega.{arith}
use native.Mathlib.Decide.{ℕ_discrete}
use lib.ListN.{length}
use borrow.Author.Tests.{eq-eqb, ne_eqb}
use Rattle.counting.proofs.Least.{least_found, least_none}
use Rattle.schedule.specs.Schedule.{cycle_of}
use Rattle.schedule.specs.Verdict.{shares}
use Rattle.plan_faults.specs.Faults.{card_fault, clear_of}
use Rattle.plan_faults.specs.Searches.{ClearTo}

-- what makes a card fault, and what rules it out
module _ (cards cycles : List ℕ) (i : ℕ) where
  pub fault_by_cycle : cycle_of cycles i ≡ 0 → card_fault cards cycles i ≡ true
  fault_by_cycle e = rw (eq-eqb (cycle_of cycles i) 0 e)

  pub fault_by_card : cycle_of cycles i ≢ 0 → shares cards cycles i ≡ true → card_fault cards cycles i ≡ true
  fault_by_card n s = rw (ne_eqb (cycle_of cycles i) 0 n, s)

  pub no_card_fault : cycle_of cycles i ≢ 0 → shares cards cycles i ≡ false → card_fault cards cycles i ≡ false
  no_card_fault n s = rw (ne_eqb (cycle_of cycles i) 0 n, s)

pub clear_first : (cards cycles : List ℕ) → ClearTo cards cycles 0
clear_first cards cycles = record { inside = omega arith; each = λ j l. absurd (omega arith) }

module _ {cards cycles : List ℕ} {i : ℕ} (v : ClearTo cards cycles i) where
  pub clear_next : i < length cards → card_fault cards cycles i ≡ false → ClearTo cards cycles (i + 1)
  clear_next l e =
      record {
        inside = omega arith;
        each = λ j k. elim (ℕ_discrete j i) [ yes q ↦ rw q e | no q ↦ v.each j (omega arith) ];
      }

  -- of the first n frames
  module _ {n : ℕ} where
    pub clear_ends : i < n → card_fault cards cycles i ≡ true → i ≡ clear_of cards cycles n
    clear_ends l e = sym (least_found n i (card_fault cards cycles) l e v.each)

    pub clear_all : n ≤ i → n ≡ clear_of cards cycles n
    clear_all l = sym (least_none n (card_fault cards cycles) (λ j k. v.each j (omega arith)))
