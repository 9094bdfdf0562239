-- One frame more, anywhere in the list, is one cycle more or none; another card for one frame moves the number of cycles by at most one
-- (request 2026-08). The bound of the longer list keeps up with the shorter list's, one cycle behind: until the new frame can enter, the two
-- agree; from then on the longer list can have done, one cycle later, all that the shorter one can, and the new frame besides.
-- Assumes nothing.
use Prim.Native.Nat.{ℕ, zero, suc, ◌+◌, ◌-◌, ◌≤◌, ◌<◌}
use mathlib.Core.Path.{◌≡◌, refl, sym, ap, ◌∙◌}
use mathlib.Core.List.{List, [], ◌∷◌, ◌++◌, append_assoc, reverse, reverse-cons, reverse-append}
use native.Mathlib.Omega.{arith}
use native.Mathlib.Decide.{dec_lt, ℕ_discrete}
use lib.Dec.{eqb}
use lib.ListN.{length, length-append, get_or-append}
use lib.Seq.{get_or_at, get_or-append-add}
use Rattle.counting.specs.Count.{bit, sum, largest}
use Rattle.counting.specs.Frames.{card_of}
use Rattle.schedule.specs.Greedy.{greedy_writing, lazy_prefetching}
use Rattle.schedule.specs.OneFrame.{AtMostOneApart, NoneOrOneMore}
use Rattle.counting.proofs.Bits.{bit_le_one}
use Rattle.counting.proofs.Joined.{sub_one}
use Rattle.counting.proofs.Lists.{le_largest}
use Rattle.counting.proofs.Sums.{sum_mono, sum_cong, sum_add, sum_longer, equal_one}
use Rattle.schedule.proofs.Bound.{on_card, admitted, bound, bound_zero, bound_suc}
use Rattle.schedule.proofs.Fewest.{greedy_correct, greedy_length, read_is_save}
use Rattle.schedule.proofs.Process.{greedy_under_bound}
use Rattle.schedule.proofs.SaveBound.{save_bound}
use Rattle.schedule.proofs.SubLists.{save_sub}

-- the bound rises from cycle to cycle
bound_rises : (m D L : ℕ) (card : ℕ → ℕ) (t c : ℕ) → bound m D L card t c ≤ bound m D L card (suc t) c
bound_rises m D L card zero c = omega (arith, bound_zero m D L card c)
bound_rises m D L card (suc t) c =
    let B : ℕ → ℕ → ℕ = bound m D L card in
    omega (
      arith,
      bound_suc m D L card t c,
      bound_suc m D L card (suc t) c,
      bound_rises m D L card t c,
      sum_longer (admitted m D L card (B t)) (admitted m D L card (B (suc t))) (λ i. bit (eqb (card i) c))
          (omega (arith, sum_mono D (B t) (B (suc t)) (λ d l. bound_rises m D L card t d))),
    )

-- L frames, and the same with a frame of card d at place p
module _
    (m D L p d : ℕ) (card card' : ℕ → ℕ) (inside : p ≤ L) (known : d < D)
    (before : (i : ℕ) → i < p → card' i ≡ card i) (here : card' p ≡ d) (behind : (i : ℕ) → p ≤ i → card' (suc i) ≡ card i) where
  abbrev short : ℕ → ℕ → ℕ
  short = bound m D L card

  abbrev long : ℕ → ℕ → ℕ
  long = bound m D (suc L) card'

  -- the frames that can have entered after t cycles
  abbrev came : ℕ → ℕ
  came t = admitted m D L card (short t)

  abbrev came' : ℕ → ℕ
  came' t = admitted m D (suc L) card' (long t)

  abbrev on : ℕ → ℕ → ℕ
  on = on_card m D L card

  abbrev on' : ℕ → ℕ → ℕ
  on' = on_card m D (suc L) card'

  on'_longer : (n k c : ℕ) → n ≤ k → on' n c ≤ on' k c
  on'_longer n k c = sum_longer n k (λ i. bit (eqb (card' i) c))

  on_before : (n c : ℕ) → n ≤ p → on' n c ≡ on n c
  on_before n c h = sum_cong n (λ i. bit (eqb (card' i) c)) (λ i. bit (eqb (card i) c)) (λ i l. rw (before i (omega arith)))

  on_here : (c : ℕ) → on' (suc p) c ≡ on p c + bit (eqb d c)
  on_here c = omega (arith, on_before p c (omega arith), ap (λ x. bit (eqb x c)) here)

  on_behind : (n c : ℕ) → p ≤ n → on' (suc n) c ≡ on n c + bit (eqb d c)
  on_behind zero c h = let e : p ≡ 0 = omega arith in rw e at (on_here c)
  on_behind (suc n) c h =
      elim (ℕ_discrete p (suc n)) [
        | yes e ↦ rw e at (on_here c)
        | no e ↦ omega (arith, on_behind n c (omega arith), ap (λ x. bit (eqb x c)) (behind n (omega arith)))
      ]

  -- until the new frame can enter
  abbrev Level : ℕ → Type 0
  Level t = (c : ℕ) → (short t c ≤ long t c) × (short t c ≤ on p c)

  -- from then on
  abbrev Ahead : ℕ → Type 0
  Ahead t = (c : ℕ) → short t c + bit (eqb d c) ≤ long (suc t) c

  level_start : Level 0
  level_start c = omega (arith, bound_zero m D L card c)

  level_next : (t : ℕ) → m + sum D (short t) ≤ p → Level t → Level (suc t)
  level_next t h v c =
      let more : came t ≤ came' t = omega (arith, sum_mono D (short t) (long t) (λ e l. (v e).0)) in
      omega (
        arith,
        v c,
        bound_suc m D L card t c,
        bound_suc m D (suc L) card' t c,
        on_before (came t) c (omega arith),
        on'_longer (came t) (came' t) c more,
        sum_longer (came t) p (λ i. bit (eqb (card i) c)) (omega arith),
      )

  level_ahead : (t : ℕ) → p < m + sum D (short t) → Level t → Ahead t
  level_ahead t h v c =
      omega (
        arith,
        v c,
        bit_le_one (eqb d c),
        bound_suc m D (suc L) card' t c,
        on_here c,
        on'_longer (suc p) (came' t) c (omega (arith, sum_mono D (short t) (long t) (λ e l. (v e).0))),
      )

  ahead_total : (t : ℕ) → Ahead t → suc (sum D (short t)) ≤ sum D (long (suc t))
  ahead_total t a =
      omega (
        arith,
        sum_mono D (λ c. short t c + bit (eqb d c)) (long (suc t)) (λ c l. a c),
        sum_add D (short t) (λ c. bit (eqb d c)),
        equal_one D d known,
      )

  ahead_next : (t : ℕ) → p < m + sum D (short t) → Ahead t → Ahead (suc t)
  ahead_next t h a c =
      omega (
        arith,
        a c,
        bound_suc m D L card t c,
        bound_suc m D (suc L) card' (suc t) c,
        on_behind (came t) c (omega arith),
        on'_longer (suc (came t)) (came' (suc t)) c (omega (arith, ahead_total t a)),
      )

  stages : (t : ℕ) → (p < m + sum D (short t) → Ahead t) × (m + sum D (short t) ≤ p → Level t)
  stages zero = (λ h. level_ahead 0 h level_start, λ h. level_start)
  stages (suc t) =
      let rises : sum D (short t) ≤ sum D (short (suc t)) = sum_mono D (short t) (short (suc t)) (λ c l. bound_rises m D L card t c) in
      elim (dec_lt p (m + sum D (short t))) [
        | yes h ↦ (λ g. ahead_next t h ((stages t).0 h), λ g. absurd (omega arith))
        | no h ↦
            (let v : Level (suc t) = level_next t (omega arith) ((stages t).1 (omega arith)) in
            (λ g. level_ahead (suc t) g v, λ g. v))
      ]

  -- where the bound reaches all frames of the shorter list, a cycle later it reaches all of the longer one
  one_cycle_more : (t : ℕ) → 1 ≤ m → L ≤ sum D (short t) → suc L ≤ sum D (long (suc t))
  one_cycle_more t pool h = omega (arith, ahead_total t ((stages t).0 (omega arith)))

-- a frame between those before it and those behind it
module _ (m : ℕ) (before behind : List ℕ) (card : ℕ) (pool : 1 ≤ m) where
  abbrev without : List ℕ
  without = before ++ behind

  abbrev with : List ℕ
  with = before ++ (card ∷ behind)

  one_longer : length with ≡ suc (length without)
  one_longer = omega (arith, length-append before behind, length-append before (card ∷ behind))

  card_before : (i : ℕ) → i < length before → card_of with i ≡ card_of without i
  card_before i h = get_or-append before (card ∷ behind) 0 i h ∙ sym (get_or-append before behind 0 i h)

  card_here : card_of with (length before) ≡ card
  card_here = get_or_at before card behind 0 (length before) refl

  card_behind : (i : ℕ) → length before ≤ i → card_of with (suc i) ≡ card_of without i
  card_behind i h =
      let e : i ≡ length before + (i - length before) = omega arith in
      let e' : suc i ≡ length before + suc (i - length before) = omega arith in
      ap (card_of with) e' ∙ get_or-append-add before (card ∷ behind) (suc (i - length before)) 0
      ∙ sym (get_or-append-add before behind (i - length before) 0) ∙ ap (card_of without) (sym e)

  one_more : (greedy_writing m with).T ≤ suc (greedy_writing m without).T
  one_more =
      let D : ℕ = suc (largest with + largest without) in
      let T : ℕ = (greedy_writing m without).T in
      let known : card < D = omega (arith, le_largest with (length before), card_here) in
      let reached : length without ≤ sum D (bound m D (length without) (card_of without) T) =
      rw (greedy_length m without pool) at
      (save_bound m without (greedy_writing m without).cycles D (λ i l. omega (arith, le_largest without i)) (greedy_correct m without pool)) in
      greedy_under_bound m with D (λ i l. omega (arith, le_largest with i)) pool (suc T)
      (rw one_longer
      (one_cycle_more m D (length without) (length before) card (card_of without) (card_of with)
      (omega (arith, length-append before behind)) known card_before card_here card_behind T pool reached))

  pub save_insert : NoneOrOneMore (greedy_writing m without).T (greedy_writing m with).T
  save_insert = (save_sub m pool (sub_one before behind card), one_more)

module _ (m : ℕ) (before behind : List ℕ) (pool : 1 ≤ m) where
  -- a list with a frame in it, reversed
  reversed : (card : ℕ) → reverse (before ++ (card ∷ behind)) ≡ reverse behind ++ (card ∷ reverse before)
  reversed card =
      rw (reverse-append before (card ∷ behind), reverse-cons card behind) (append_assoc (reverse behind) (card ∷ []) (reverse before))

  pub read_insert : (card : ℕ) → NoneOrOneMore (lazy_prefetching m (before ++ behind)).T (lazy_prefetching m (before ++ (card ∷ behind))).T
  read_insert card =
      rw (read_is_save m (before ++ behind), read_is_save m (before ++ (card ∷ behind)), reverse-append before behind, reversed card)
      (save_insert m (reverse behind) (reverse before) card pool)

  -- a frame on another card: each list is the one without that frame and a frame more
  pub save_change : (card other : ℕ)
      → AtMostOneApart (greedy_writing m (before ++ (card ∷ behind))).T (greedy_writing m (before ++ (other ∷ behind))).T
  save_change card other = omega (arith, save_insert m before behind card pool, save_insert m before behind other pool)

  pub read_change : (card other : ℕ)
      → AtMostOneApart (lazy_prefetching m (before ++ (card ∷ behind))).T (lazy_prefetching m (before ++ (other ∷ behind))).T
  read_change card other = omega (arith, read_insert card, read_insert other)
