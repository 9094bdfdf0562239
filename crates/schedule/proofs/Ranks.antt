-- The schedule by rank (request 2026-06). Where a list uses its cards evenly, it is a correct save schedule for a pool above (D - 1) × S: among the frames
-- before frame i, each other card has at most S of a rank not below i's, and i's own card none. It is as long as the load of the fullest card, which no
-- schedule undercuts. Reads follow by the reversed list.
-- Assumes nothing.
use Prim.Native.Nat.{ℕ, zero, suc, ◌+◌, ◌-◌, ◌*◌, ◌≤◌, ◌<◌}
use mathlib.Core.Path.{◌≡◌, ap, ◌∙◌}
use mathlib.Core.Bool.{◌&&◌}
use mathlib.Core.List.{List, reverse, reverse-reverse}
use native.Mathlib.Omega.{arith}
use native.Mathlib.Decide.{dec_le}
use lib.Dec.{eqb, leb}
use lib.ListN.{length, length-reverse}
use borrow.Author.Tests.{eq-eqb, eqb-true, le-leb, lt-leb}
use Rattle.counting.specs.Count.{bit, how_many}
use Rattle.counting.specs.Frames.{card_of, load}
use Rattle.schedule.specs.Schedule.{cycles_in, CorrectSave, CorrectRead}
use Rattle.schedule.specs.Greedy.{greedy_writing, turn_round, lazy_prefetching}
use Rattle.schedule.specs.Loads.{fullest, Even, rank, by_rank}
use Rattle.counting.proofs.Bits.{by_cases}
use Rattle.counting.proofs.Counted.{load_own}
use Rattle.counting.proofs.Sums.{sum_mono, sum_cong, sum_add, sum_same, sum_longer, all_but_one, over_cards, passes_after}
use Rattle.counting.proofs.Lists.{reverse_get_or}
use Rattle.schedule.proofs.Duality.{save_to_read}
use Rattle.schedule.proofs.Fewest.{greedy_correct, greedy_fewest, greedy_length, read_is_save}
use Rattle.schedule.proofs.Loads.{load_fullest, fullest_met, loads_total, fullest_at_most, fullest_reverse}
use Rattle.schedule.proofs.Tabulated.{table_correct, table_within}

-- ranks

module _ (cards : List ℕ) where
  rank_is : (i : ℕ) → rank cards i ≡ suc (load cards i (card_of cards i))
  rank_is i = load_own cards i

  -- of the first n frames on card c all but r have a rank above r
  ranked_above : (n c r : ℕ) → how_many n (λ j. eqb (card_of cards j) c && leb (suc r) (rank cards j)) ≡ load cards n c - r
  ranked_above zero c r = omega arith
  ranked_above (suc n) c r =
      by_cases (eqb (card_of cards n) c)
      (λ e.
      let same : card_of cards n ≡ c = eqb-true (card_of cards n) c e in
      let here : rank cards n ≡ suc (load cards n c) = omega (arith, rank_is n, ap (load cards n) same) in
      elim (dec_le r (load cards n c)) [
        | yes h ↦ (let above : suc r ≤ rank cards n = omega arith in rw (le-leb (suc r) (rank cards n) above, e) (omega (arith, ranked_above n c r)))
        | no h ↦ (let below : rank cards n < suc r = omega arith in rw (lt-leb (suc r) (rank cards n) below, e) (omega (arith, ranked_above n c r)))
      ])
      (λ e. rw e (omega (arith, ranked_above n c r)))

-- a list that uses D cards evenly

module _ (D S : ℕ) (cards : List ℕ) (low : (i : ℕ) → i < length cards → card_of cards i < D) (even : Even D S cards) where
  abbrev L : ℕ
  L = length cards

  -- the frames that card c has more than the others are few
  load_bound : (c : ℕ) → c < D → D * load cards L c ≤ L + (D - 1) * S
  load_bound c h =
      let over : ℕ → ℕ = λ d. load cards L c - load cards L d in
      omega (
        arith,
        loads_total D cards low,
        all_but_one D S c over h (omega arith) (λ d k. omega (arith, even L d c (omega arith) k h)),
        sum_mono D (λ d. load cards L c) (λ d. load cards L d + over d) (λ d k. omega arith),
        sum_add D (load cards L) over,
        sum_same D (load cards L c),
      )

  pub fullest_bound : D * fullest D cards ≤ L + (D - 1) * S
  fullest_bound =
      elim (dec_le 1 (fullest D cards)) [
        | yes some ↦ (let met = fullest_met D cards some in rw (← met.2) (load_bound met.0 met.1))
        | no none ↦ (let nothing : fullest D cards ≡ 0 = omega arith in rw nothing (omega arith))
      ]

  module _ (m : ℕ) (room : (D - 1) * S < m) where
    rank_pool : (i : ℕ) → i < L → how_many i (λ j. leb (rank cards i) (rank cards j)) < m
    rank_pool i l =
        let card : ℕ = card_of cards i in
        let r : ℕ = load cards i card in
        rw (rank_is cards i)
        (omega (
          arith,
          over_cards i D (card_of cards) (λ j. leb (suc r) (rank cards j)) (λ j k. low j (omega arith)),
          sum_cong D (λ c. how_many i (λ j. eqb (card_of cards j) c && leb (suc r) (rank cards j))) (λ c. load cards i c - r)
              (λ c k. ranked_above cards i c r),
          all_but_one D S card (λ c. load cards i c - r) (low i l) (omega arith) (λ c k. omega (arith, even i card c (omega arith) (low i l) k)),
        ))

    pub rank_correct : CorrectSave m cards (by_rank cards)
    rank_correct =
        table_correct cards (rank cards) m
        (λ i l. omega (arith, rank_is cards i))
        (λ i j l k c e.
        let card : ℕ = card_of cards j in
        let less : load cards i card < load cards j card = passes_after j i (λ n. eqb (card_of cards n) card) l (eq-eqb (card_of cards i) card c) in
        omega (arith, rank_is cards i, rank_is cards j, ap (load cards i) c))
        rank_pool

    rank_within : cycles_in (by_rank cards) ≤ fullest D cards
    rank_within =
        table_within cards (rank cards) (fullest D cards)
        (λ i l.
        omega (
          arith,
          sum_longer (suc i) L (λ j. bit (eqb (card_of cards j) (card_of cards i))) l,
          load_fullest D cards (card_of cards i) (low i l),
        ))

    pub rank_length : cycles_in (by_rank cards) ≡ fullest D cards
    rank_length = omega (arith, rank_within, fullest_at_most cards (by_rank cards) rank_correct.proper D)

    pub save_fullest : (greedy_writing m cards).T ≡ fullest D cards
    save_fullest =
        let pool : 1 ≤ m = omega arith in
        omega (
          arith,
          rank_length,
          greedy_fewest m cards pool (by_rank cards) rank_correct,
          fullest_at_most cards (greedy_writing m cards).cycles (greedy_correct m cards pool).proper D,
          greedy_length m cards pool,
        )

-- reads, from the list's other end

module _
    (D S : ℕ) (cards : List ℕ) (low : (i : ℕ) → i < length cards → card_of cards i < D) (even : Even D S (reverse cards))
    (m : ℕ) (room : (D - 1) * S < m) where
  low_reverse : (i : ℕ) → i < length (reverse cards) → card_of (reverse cards) i < D
  low_reverse i l =
      let inside : i < length cards = omega (arith, length-reverse cards) in
      rw (reverse_get_or cards i inside) (low (length cards - suc i) (omega arith))

  -- the ranks counted from the end of the list, turned round
  pub rank_correct_read : CorrectRead m cards (turn_round (fullest D cards) (by_rank (reverse cards)))
  rank_correct_read =
      let back : List ℕ = reverse cards in
      let turned : CorrectRead m (reverse back) (turn_round (cycles_in (by_rank back)) (by_rank back)) =
      save_to_read m back (by_rank back) (rank_correct D S back low_reverse even m room) in
      rw (reverse-reverse cards, rank_length D S back low_reverse even m room, fullest_reverse D cards) at turned

  pub read_fullest : (lazy_prefetching m cards).T ≡ fullest D cards
  read_fullest = read_is_save m cards ∙ save_fullest D S (reverse cards) low_reverse even m room ∙ fullest_reverse D cards
