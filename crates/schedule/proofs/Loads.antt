-- The loads of the cards. No card has more frames than a schedule has cycles: in each cycle it has one at most. From the list's other end the loads are
-- what is left of them.
-- Assumes nothing.
use Prim.Native.Nat.{ℕ, zero, suc, ◌+◌, ◌-◌, ◌≤◌, ◌<◌, zero-le}
use mathlib.Core.Path.{◌≡◌, sym, ap, ◌∙◌}
use mathlib.Core.Bool.{Bool, true, ◌&&◌}
use mathlib.Core.List.{List, reverse}
use native.Mathlib.Omega.{arith}
use native.Mathlib.Decide.{dec_lt}
use lib.Dec.{eqb, leb}
use lib.ListN.{length, length-reverse}
use borrow.Author.Tests.{ne_eqb, eqb-true, le-leb, lt-leb}
use Rattle.counting.specs.Count.{bit, sum, how_many, tabulate, largest}
use Rattle.counting.specs.Frames.{card_of, load}
use Rattle.schedule.specs.Schedule.{cycle_of, cycles_in, Proper}
use Rattle.schedule.specs.Loads.{fullest}
use Rattle.counting.proofs.Bits.{by_cases, and_left, and_right, bit_up_to, bit_and_off}
use Rattle.counting.proofs.Counted.{load_reverse}
use Rattle.counting.proofs.Sums.{sum_mono, sum_cong, sum_add, sum_zero, sum_one, sum_swap, equal_one, at_most_one}
use Rattle.counting.proofs.Lists.{length_tabulate, get_or_tabulate, tabulate_cong, le_largest, largest_le, largest_met}

-- the load of the fullest card

module _ (D : ℕ) (cards : List ℕ) where
  abbrev loads : ℕ → ℕ
  loads = load cards (length cards)

  pub load_fullest : (c : ℕ) → c < D → loads c ≤ fullest D cards
  load_fullest c h = omega (arith, le_largest (tabulate D loads) c, get_or_tabulate D loads c 0 h)

  pub fullest_least : (t : ℕ) → ((c : ℕ) → c < D → loads c ≤ t) → fullest D cards ≤ t
  fullest_least t h =
      largest_le (tabulate D loads) t (λ c l. let k : c < D = omega (arith, length_tabulate D loads) in rw (get_or_tabulate D loads c 0 k) (h c k))

  -- one of the cards has it, if there are frames
  pub fullest_met : 1 ≤ fullest D cards → (c : ℕ) × (c < D) × (loads c ≡ fullest D cards)
  fullest_met some =
      let met = largest_met (tabulate D loads) some in
      let inside : met.0 < D = omega (arith, met.1, length_tabulate D loads) in
      (met.0, inside, sym (get_or_tabulate D loads met.0 0 inside) ∙ met.2)

  -- all loads together are the frames
  pub loads_total : ((i : ℕ) → i < length cards → card_of cards i < D) → sum D loads ≡ length cards
  loads_total low =
      sum_swap D (length cards) (λ c i. bit (eqb (card_of cards i) c))
      ∙ sum_cong (length cards) (λ i. how_many D (λ c. eqb (card_of cards i) c)) (λ i. 1) (λ i l. equal_one D (card_of cards i) (low i l))
      ∙ sum_one (length cards)

-- cards that no frame is on change nothing
pub fullest_wider :
    (D E : ℕ) (cards : List ℕ) → D ≤ E → ((i : ℕ) → i < length cards → card_of cards i < D) → fullest E cards ≡ fullest D cards
fullest_wider D E cards more low =
    omega (
      arith,
      fullest_least D cards (fullest E cards) (λ c l. load_fullest E cards c (omega arith)),
      fullest_least E cards (fullest D cards)
          (λ c l.
          elim (dec_lt c D) [
            | yes k ↦ load_fullest D cards c k
            | no k ↦ (let none = unused c (omega arith) in omega arith)
          ]),
    )
  where
    unused : (c : ℕ) → D ≤ c → load cards (length cards) c ≡ 0
    unused c h =
        sum_cong (length cards) (λ i. bit (eqb (card_of cards i) c)) (λ i. 0)
        (λ i l. ap bit (ne_eqb (card_of cards i) c (λ e. omega (arith, low i l))))
        ∙ sum_zero (length cards)

-- a load, and the cycles of a schedule

module _ (cards cycles : List ℕ) (ok : Proper cards cycles) where
  abbrev L : ℕ
  L = length cards

  -- whether frame i is of card c and in cycle t
  abbrev in_cycle : ℕ → ℕ → ℕ → Bool
  in_cycle t c i = eqb (card_of cards i) c && eqb (cycle_of cycles i) t

  in_cycle_says : (t c i : ℕ) → in_cycle t c i ≡ true → (card_of cards i ≡ c) × (cycle_of cycles i ≡ t)
  in_cycle_says t c i e =
      let card = eqb (card_of cards i) c in
      let cycle = eqb (cycle_of cycles i) t in
      (eqb-true (card_of cards i) c (and_left card cycle e), eqb-true (cycle_of cycles i) t (and_right card cycle e))

  one_in_cycle : (t c : ℕ) → how_many L (in_cycle t c) ≤ 1
  one_in_cycle t c =
      at_most_one L (in_cycle t c)
      (λ i j l k a b.
      let first = in_cycle_says t c i a in
      let second = in_cycle_says t c j b in
      ok.card_rule i j l k (omega arith) (omega arith))

  -- of the frames of a card, no more than t are done after t cycles
  done_at_most : (t c : ℕ) → how_many L (λ i. eqb (card_of cards i) c && leb (cycle_of cycles i) t) ≤ t
  done_at_most zero c =
      omega (
        arith,
        sum_cong L (λ i. bit (eqb (card_of cards i) c && leb (cycle_of cycles i) 0)) (λ i. 0)
            (λ i l. bit_and_off (eqb (card_of cards i) c) (leb (cycle_of cycles i) 0) (lt-leb (cycle_of cycles i) 0 (ok.from_one i l))),
        sum_zero L,
      )
  done_at_most (suc t) c =
      let done : ℕ → ℕ = λ i. bit (eqb (card_of cards i) c && leb (cycle_of cycles i) t) in
      let now : ℕ → ℕ = λ i. bit (in_cycle (suc t) c i) in
      omega (
        arith,
        done_at_most t c,
        sum_mono L (λ i. bit (eqb (card_of cards i) c && leb (cycle_of cycles i) (suc t))) (λ i. done i + now i)
            (λ i l. bit_up_to (eqb (card_of cards i) c) (cycle_of cycles i) t),
        sum_add L done now,
        one_in_cycle (suc t) c,
      )

  pub load_at_most : (c : ℕ) → load cards L c ≤ cycles_in cycles
  load_at_most c =
      omega (
        arith,
        done_at_most (cycles_in cycles) c,
        sum_mono L (λ i. bit (eqb (card_of cards i) c)) (λ i. bit (eqb (card_of cards i) c && leb (cycle_of cycles i) (cycles_in cycles)))
            (λ i l.
            rw (le-leb (cycle_of cycles i) (cycles_in cycles) (le_largest cycles i))
            (by_cases (eqb (card_of cards i) c) (λ e. rw e (omega arith)) (λ e. rw e zero-le))),
      )

  pub fullest_at_most : (D : ℕ) → fullest D cards ≤ cycles_in cycles
  fullest_at_most D = fullest_least D cards (cycles_in cycles) (λ c l. load_at_most c)

-- from the other end

load_whole : (cards : List ℕ) (c : ℕ) → load (reverse cards) (length (reverse cards)) c ≡ load cards (length cards) c
load_whole cards c =
    let none_left : length cards - length cards ≡ 0 = omega arith in
    rw (length-reverse cards) (omega (arith, rw none_left at (load_reverse cards (length cards) c (omega arith))))

pub fullest_reverse : (D : ℕ) (cards : List ℕ) → fullest D (reverse cards) ≡ fullest D cards
fullest_reverse D cards =
    ap largest (tabulate_cong D (load (reverse cards) (length (reverse cards))) (load cards (length cards)) (λ c l. load_whole cards c))
