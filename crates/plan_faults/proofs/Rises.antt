-- The latest cycle of each card: a frame after it has a cycle of its own.
-- Assumes nothing.
use Prim.Native.Nat.{ℕ, ◌+◌, ◌≤◌, ◌<◌}
use mathlib.Core.Path.{◌≡◌, refl, sym, ◌∙◌}
use mathlib.Core.Logic.{◌≢◌}
use mathlib.Core.Bool.{true, false}
use mathlib.Core.List.{List}
use native.Mathlib.Omega.{arith}
use native.Mathlib.Decide.{dec_lt, ℕ_discrete}
use lib.ListN.{length, get_or, set, length-set}
use lib.Seq.{get_or-set_same, get_or-set_other}
use Rattle.counting.specs.Frames.{card_of}
use Rattle.schedule.specs.Schedule.{cycle_of}
use Rattle.schedule.specs.Verdict.{shares}
use Rattle.header.specs.Limits.{max_cards}
use Rattle.plan_faults.specs.Faults.{Checking, card_fault, clear_of}
use Rattle.plan_faults.specs.Searches.{Latest, Rising, Risen, ClearTo}
use Rattle.plan_faults.proofs.Sharing.{NoneAfter, not_shared_later}
use Rattle.plan_faults.proofs.ClearFrames.{clear_next, clear_ends, fault_by_cycle, fault_by_card, no_card_fault}

-- frame i, whose card is c
module _ {cards cycles latest : List ℕ} {i : ℕ} (v : Latest cards cycles latest i) {c : ℕ} (c-is : c ≡ card_of cards i) where
  none_after : NoneAfter cards cycles i (get_or latest c 0)
  none_after = record { each = λ j k e. rw (c-is, ← e) (v.late j k) }

  pub after_all : get_or latest c 0 < cycle_of cycles i → card_fault cards cycles i ≡ false
  after_all h = no_card_fault cards cycles i (λ e. omega arith) (sym (not_shared_later cards cycles i (get_or latest c 0) none_after h))

  -- it becomes the latest of its card
  pub latest_next : c < max_cards → get_or latest c 0 < cycle_of cycles i → Latest cards cycles (set latest c (cycle_of cycles i)) (i + 1)
  latest_next l h =
      let here = get_or-set_same latest c (cycle_of cycles i) 0 (omega (arith, v.long)) in
      record {
        long = length-set latest c (cycle_of cycles i) ∙ v.long;
        late = λ j k.
            elim (ℕ_discrete (card_of cards j) c) [
              | yes q ↦
                  elim (ℕ_discrete j i) [
                    | yes z ↦ rw (z, ← c-is) (omega (arith, here))
                    | no z ↦ (let before = v.late j (omega arith) in rw q (omega (arith, here, rw q at before)))
                  ]
              | no q ↦
                  (let z : j < i = elim (ℕ_discrete j i) [ yes z ↦ absurd (q (rw z (sym c-is))) | no z ↦ omega arith ] in
                  rw (get_or-set_other latest c (card_of cards j) (cycle_of cycles i) 0 q) (v.late j z))
            ];
      }

  -- or it is behind it, and the latest stay
  pub latest_stay : cycle_of cycles i ≤ get_or latest c 0 → Latest cards cycles latest (i + 1)
  latest_stay h =
      record {
        long = v.long;
        late = λ j k. elim (ℕ_discrete j i) [ yes z ↦ rw (z, ← c-is) h | no z ↦ v.late j (omega arith) ];
      }

pub rising_first : {cards cycles latest : List ℕ} {from : ℕ} → from ≤ length cards → Latest cards cycles latest from
    → Rising cards cycles latest from from
rising_first l v = record { on = omega arith; inside = l; each = λ j h k. absurd (omega arith); so_far = v }

module _ {cards cycles latest : List ℕ} {from i : ℕ} (v : Rising cards cycles latest from i) where
  module _ (l : i < length cards) {c : ℕ} (c-is : c ≡ card_of cards i) where
    pub card_inside : Checking cards cycles → c < max_cards
    card_inside f = omega (arith, f.each_card i l)

    pub rising_next : Checking cards cycles → get_or latest c 0 < cycle_of cycles i
        → Rising cards cycles (set latest c (cycle_of cycles i)) from (i + 1)
    rising_next f h =
        record {
          on = omega (arith, v.on);
          inside = omega arith;
          each = λ j g k. elim (ℕ_discrete j i) [ yes z ↦ rw z (after_all v.so_far c-is h) | no z ↦ v.each j g (omega arith) ];
          so_far = latest_next v.so_far c-is (card_inside f) h;
        }

    pub rising_ends : cycle_of cycles i ≤ get_or latest c 0 → Risen cards cycles latest from i
    rising_ends h = record { rising = v; behind = λ k. rw (← c-is) h }

  pub rising_all : length cards ≤ i → Risen cards cycles latest from (length cards)
  rising_all h =
      let e : i ≡ length cards = omega (arith, v.inside) in
      rw (← e) (record { rising = v; behind = λ k. absurd (omega arith) })

-- the frames before i are clear, and frame i, if there is one, is not after all earlier ones of its card
pub record Stopped (cards cycles latest : List ℕ) (i : ℕ) : Type 0 where
  pub clear : ClearTo cards cycles i
  pub so_far : Latest cards cycles latest i
  pub behind : i < length cards → cycle_of cycles i ≤ get_or latest (card_of cards i) 0

-- clear up to where the frames rise from
pub stopped : {cards cycles latest : List ℕ} {from r : ℕ} → ClearTo cards cycles from → Risen cards cycles latest from r → Stopped cards cycles latest r
stopped {from = from} v w =
    record {
      clear =
          record {
            inside = w.rising.inside;
            each = λ j l. elim (dec_lt j from) [ yes h ↦ v.each j h | no h ↦ w.rising.each j (omega arith) l ];
          };
      so_far = w.rising.so_far;
      behind = w.behind;
    }

-- frame i, one of the first n
module _ {cards cycles latest : List ℕ} {n i : ℕ} (v : Stopped cards cycles latest i) (b : n ≤ length cards) (l : i < n) where
  pub no_cycle_stops : cycle_of cycles i ≡ 0 → i ≡ clear_of cards cycles n
  no_cycle_stops e = clear_ends v.clear l (fault_by_cycle cards cycles i e)

  module _ (k : cycle_of cycles i ≢ 0) where
    pub shared_stops : shares cards cycles i ≡ true → i ≡ clear_of cards cycles n
    shared_stops s = clear_ends v.clear l (fault_by_card cards cycles i k s)

    pub clear_on : shares cards cycles i ≡ false → ClearTo cards cycles (i + 1)
    clear_on s = clear_next v.clear (omega arith) (no_card_fault cards cycles i k s)

  pub latest_on : Latest cards cycles latest (i + 1)
  latest_on = latest_stay v.so_far refl (v.behind (omega arith))
