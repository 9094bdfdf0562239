-- Each frame that has entered stands in one place: it waits in the pool, once, or it stands in the log, once.
-- Assumes nothing.
use Prim.Native.Nat.{ℕ, zero, suc, ◌+◌, ◌≤◌, ◌<◌}
use mathlib.Core.Path.{◌≡◌, refl, sym, ap, ◌∙◌}
use mathlib.Core.Bool.{Bool, true, false, ◌&&◌}
use mathlib.Core.List.{List}
use native.Mathlib.Omega.{arith}
use native.Mathlib.Decide.{dec_lt}
use lib.Dec.{eqb}
use lib.ListN.{length}
use borrow.Author.Tests.{eq-eqb, ne_eqb, eqb-true}
use Rattle.counting.specs.Count.{bit, how_many}
use Rattle.counting.specs.Frames.{card_of}
use Rattle.schedule.specs.Schedule.{cycle_of}
use Rattle.schedule.specs.Greedy.{Plan}
use Rattle.counting.proofs.Bits.{by_cases, by_test, and_left, and_right}
use Rattle.counting.proofs.Sums.{sum_cong, on_one_card, zero_or_one_of}
use Rattle.header.specs.Limits.{max_cards}
use Rattle.greedy_pool.specs.Pool.{none, pool_of}
use Rattle.greedy_pool.specs.Log.{frame_among, entries_of, cycles_up_to, log_of, times, times_in, Told}
use Rattle.greedy_pool.proofs.Times.{times_tabulate, times_in_snoc, times_pool}

-- the entry of card k is no frame from n on
frame_not : (cards cycles : List ℕ) (c k n i : ℕ) → n ≤ i → i < none → eqb (frame_among cards cycles c k n) i ≡ false
frame_not cards cycles c k zero i h g = ne_eqb none i (λ e. omega arith)
frame_not cards cycles c k (suc n) i h g =
    by_test (λ r. eqb r i ≡ false) (eqb (card_of cards n) k && eqb (cycle_of cycles n) c) n (frame_among cards cycles c k n)
    (λ e. ne_eqb n i (λ q. omega arith))
    (λ e. frame_not cards cycles c k n i (omega arith) g)

module _ (cards : List ℕ) (p : Plan) (v : Told cards p) (i : ℕ) (l : i < length p.cycles) where
  abbrev y : ℕ → ℕ
  y = cycle_of p.cycles

  -- frame n is on card k and has cycle c
  abbrev has : ℕ → ℕ → ℕ → Bool
  has c k n = eqb (card_of cards n) k && eqb (y n) c

  -- at most one frame has
  only_one : (c k n : ℕ) → 1 ≤ c → i < n → n < length p.cycles → has c k n ≡ true → has c k i ≡ false
  only_one c k n h g m e =
      by_cases (has c k i)
      (λ q.
      let card : card_of cards i ≡ card_of cards n = omega (
        arith,
        eqb-true (card_of cards i) k (and_left (eqb (card_of cards i) k) (eqb (y i) c) q),
        eqb-true (card_of cards n) k (and_left (eqb (card_of cards n) k) (eqb (y n) c) e),
      ) in
      let mine : y i ≡ c = eqb-true (y i) c (and_right (eqb (card_of cards i) k) (eqb (y i) c) q) in
      let its : y n ≡ c = eqb-true (y n) c (and_right (eqb (card_of cards n) k) (eqb (y n) c) e) in
      absurd (omega (arith, v.card_rule i n g m card (omega arith))))
      (λ q. q)

  -- so the entry of card k in cycle c is frame i just where frame i has
  frame_is : i < none → (c k n : ℕ) → 1 ≤ c → i < n → n ≤ length p.cycles → eqb (frame_among cards p.cycles c k n) i ≡ has c k i
  frame_is low c k zero h g m = absurd (omega arith)
  frame_is low c k (suc n) h g m =
      elim (dec_lt i n) [
        | yes b ↦
            by_test (λ r. eqb r i ≡ has c k i) (has c k n) n (frame_among cards p.cycles c k n)
            (λ e. ne_eqb n i (λ q. omega arith) ∙ sym (only_one c k n h b m e))
            (λ e. frame_is low c k n h b (omega arith))
        | no b ↦
            (let z : n ≡ i = omega arith in
            let same : has c k n ≡ has c k i = ap (has c k) z in
            by_test (λ r. eqb r i ≡ has c k i) (has c k n) n (frame_among cards p.cycles c k n)
            (λ e. eq-eqb n i z ∙ sym e ∙ same)
            (λ e. frame_not cards p.cycles c k n i (omega arith) low ∙ sym e ∙ same))
      ]

  module _ (low : i < none) (card : card_of cards i < max_cards) where
    -- a cycle writes frame i once, where it is its cycle
    times_entries : (c : ℕ) → 1 ≤ c → times i (entries_of cards p.cycles c) ≡ bit (eqb (y i) c)
    times_entries c h =
        times_tabulate i max_cards (λ k. frame_among cards p.cycles c k (length p.cycles))
        ∙ sum_cong max_cards (λ k. bit (eqb (frame_among cards p.cycles c k (length p.cycles)) i))
        (λ k. bit (has c k i))
        (λ k b. ap bit (frame_is low c k (length p.cycles) h l (omega arith)))
        ∙ on_one_card max_cards (card_of cards i) (eqb (y i) c) card

    times_log : (t : ℕ) → times_in i (cycles_up_to cards p.cycles t) ≡ how_many t (λ c. eqb (y i) (suc c))
    times_log zero = refl
    times_log (suc t) =
        times_in_snoc i (cycles_up_to cards p.cycles t) (entries_of cards p.cycles (suc t))
        ∙ rw (times_log t, times_entries (suc t) (omega arith))

pub once : (cards : List ℕ) (p : Plan) → Told cards p
    → ((i : ℕ) → i < length p.cycles → card_of cards i < max_cards) → length p.cycles ≤ none
    → (i : ℕ) → i < length p.cycles → times_in i (log_of cards p) + times i (pool_of p.cycles) ≡ 1
once cards p v low fit i l =
    rw (times_log cards p v i l (omega arith) (low i l) p.T, times_pool p.cycles i (length p.cycles) l)
    (zero_or_one_of (cycle_of p.cycles i) p.T (v.cycles_made i l))
