-- No correct save schedule beats the bound: after t cycles it has written at most `bound t c` frames of each card c.
-- The card rule gives one frame of a card in a cycle; the pool rule says that what is written by cycle t + 1 had entered.
-- Which frame of a card is written plays no part, so the schedule need not be oldest first.
-- Assumes nothing.
use Prim.Native.Nat.{ℕ, zero, suc, ◌+◌, ◌≤◌, ◌<◌}
use mathlib.Core.Path.{◌≡◌}
use mathlib.Core.Bool.{Bool, true, ◌&&◌}
use mathlib.Core.List.{List}
use native.Mathlib.Omega.{arith}
use native.Mathlib.Decide.{dec_le}
use lib.Dec.{eqb, leb}
use lib.ListN.{length}
use borrow.Author.Tests.{eqb-true, le-leb, lt-leb}
use Rattle.counting.specs.Count.{bit, sum, how_many}
use Rattle.counting.specs.Frames.{card_of}
use Rattle.schedule.specs.Schedule.{cycle_of, cycles_in, CorrectSave}
use Rattle.counting.proofs.Bits.{bit_and_le, bit_and_off, bit_up_to, and_left, and_right, later_or_done}
use Rattle.counting.proofs.Sums.{over_cards, sum_mono, sum_add, sum_zero, sum_one, sum_cut, sum_longer, at_most_one}
use Rattle.counting.proofs.Lists.{le_largest}
use Rattle.schedule.proofs.Bound.{bound, under_bound}

module _ (m : ℕ) (cards cycles : List ℕ) (D : ℕ) (low : (i : ℕ) → i < length cards → card_of cards i < D) (ok : CorrectSave m cards cycles) where
  abbrev L : ℕ
  L = length cards

  abbrev card : ℕ → ℕ
  card = card_of cards

  abbrev cyc : ℕ → ℕ
  cyc = cycle_of cycles

  -- how many frames of card c are written up to cycle t
  abbrev done : ℕ → ℕ → ℕ
  done t c = how_many L (λ i. eqb (card i) c && leb (cyc i) t)

  -- a frame that is written up to cycle t + 1 has entered: of those before it, fewer than m are not written up to t
  entered : (t i : ℕ) → i < L → cyc i ≤ suc t → i < m + sum D (done t)
  entered t i l h =
      omega (
        arith,
        ok.pool_rule i l,
        sum_one i,
        sum_mono i (λ j. 1) (λ j. bit (leb (cyc i) (cyc j)) + bit (leb (cyc j) t)) (λ j k. later_or_done (cyc j) (cyc i) t h),
        sum_add i (λ j. bit (leb (cyc i) (cyc j))) (λ j. bit (leb (cyc j) t)),
        sum_longer i L (λ j. bit (leb (cyc j) t)) (omega arith),
        over_cards L D card (λ j. leb (cyc j) t) low,
      )

  -- whether frame i is the one that card c writes in cycle t
  abbrev writes : ℕ → ℕ → ℕ → Bool
  writes t c i = eqb (card i) c && eqb (cyc i) t

  writes_card : (t c i : ℕ) → writes t c i ≡ true → card i ≡ c
  writes_card t c i a = eqb-true (card i) c (and_left (eqb (card i) c) (eqb (cyc i) t) a)

  writes_cycle : (t c i : ℕ) → writes t c i ≡ true → cyc i ≡ t
  writes_cycle t c i a = eqb-true (cyc i) t (and_right (eqb (card i) c) (eqb (cyc i) t) a)

  -- a card writes one frame in a cycle
  one_more : (t c : ℕ) → done (suc t) c ≤ suc (done t c)
  one_more t c =
      omega (
        arith,
        sum_mono L (λ i. bit (eqb (card i) c && leb (cyc i) (suc t))) (λ i. bit (eqb (card i) c && leb (cyc i) t) + bit (writes (suc t) c i))
            (λ i l. bit_up_to (eqb (card i) c) (cyc i) t),
        sum_add L (λ i. bit (eqb (card i) c && leb (cyc i) t)) (λ i. bit (writes (suc t) c i)),
        at_most_one L (writes (suc t) c)
            (λ i j l k a b.
            ok.proper.card_rule i j l k
            (omega (arith, writes_card (suc t) c i a, writes_card (suc t) c j b))
            (omega (arith, writes_cycle (suc t) c i a, writes_cycle (suc t) c j b))),
      )

  done_under_bound : (t c : ℕ) → done t c ≤ bound m D L card t c
  done_under_bound zero c =
      omega (
        arith,
        sum_mono L (λ i. bit (eqb (card i) c && leb (cyc i) 0)) (λ i. 0)
            (λ i l. omega (arith, bit_and_off (eqb (card i) c) (leb (cyc i) 0) (lt-leb (cyc i) 0 (ok.proper.from_one i l)))),
        sum_zero L,
      )
  done_under_bound (suc t) c =
      let total : sum D (done t) ≤ sum D (bound m D L card t) = sum_mono D (done t) (bound m D L card t) (λ d l. done_under_bound t d) in
      under_bound m D L card t c (done (suc t) c)
      (omega (arith, one_more t c, done_under_bound t c))
      (sum_cut L (m + sum D (bound m D L card t)) (λ i. bit (eqb (card i) c && leb (cyc i) (suc t))) (λ i. bit (eqb (card i) c))
      (λ i l k. bit_and_le (eqb (card i) c) (leb (cyc i) (suc t)))
      (λ i l k. bit_and_off (eqb (card i) c) (leb (cyc i) (suc t))
      (elim (dec_le (cyc i) (suc t)) [ yes h ↦ absurd (omega (arith, entered t i l h)) | no h ↦ lt-leb (cyc i) (suc t) (omega arith) ])))

  -- the schedule's length is at least the first t at which the bound reaches all frames
  pub save_bound : L ≤ sum D (bound m D L card (cycles_in cycles))
  save_bound =
      let T : ℕ = cycles_in cycles in
      omega (
        arith,
        sum_one L,
        sum_mono L (λ i. 1) (λ i. bit (leb (cyc i) T)) (λ i l. rw (le-leb (cyc i) T (le_largest cycles i)) (omega arith)),
        over_cards L D card (λ i. leb (cyc i) T) low,
        sum_mono D (done T) (bound m D L card T) (λ c l. done_under_bound T c),
      )
