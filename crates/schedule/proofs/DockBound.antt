-- No list of steps on the dock beats the bound of the reversed list.
-- Going backward over the steps, `missing d c` counts the frames of card c that are neither delivered nor held: none at the finish, all at the
-- start. A cycle reads at most one frame of a card, and its end finds at most m frames held beyond those delivered. So with k more
-- cycles to the finish at most `bound k c` frames of card c are missing. Reading ahead, dropping and reading again need no case of their own.
-- Assumes nothing.
use Prim.Native.Nat.{ℕ, zero, suc, ◌+◌, ◌-◌, ◌≤◌, ◌<◌, min}
use mathlib.Core.Path.{◌≡◌, refl}
use mathlib.Core.Bool.{Bool, true, false, not, ◌&&◌, ◌||◌, cond}
use mathlib.Core.List.{List, [], ◌∷◌, reverse}
use native.Mathlib.Omega.{arith}
use native.Mathlib.Decide.{dec_le, dec_lt, ℕ_discrete}
use lib.Dec.{eqb, leb, ltb}
use lib.ListN.{length}
use borrow.Author.Tests.{eq-eqb, ne_eqb, eqb-true, leb-true, le-leb, lt-leb, ltb-false, lt-ltb, not-true}
use Rattle.counting.specs.Count.{bit, sum, how_many}
use Rattle.counting.specs.Frames.{card_of}
use Rattle.schedule.specs.Dock.{Step, read_frame, drop_frame, end_cycle, Dock, empty_dock, is_in, deliver, break_off, holding, perform, against, step, run}
use Rattle.counting.proofs.Bits.{by_test, and_left, and_right, or_neither, bit_le_one, bit_and_le, bit_and_mono, bit_and_off}
use Rattle.counting.proofs.Sums.{over_cards, sum_mono, sum_add, sum_zero, sum_one, sum_cut, sum_reverse, equal_at_most_one, below_at_most}
use Rattle.counting.proofs.Lists.{reverse_get_or}
use Rattle.schedule.proofs.Deliver.{deliver_held}
use Rattle.schedule.proofs.Bound.{on_card, bound, under_bound}

-- a frame missing before a drop is missing after it; before a read too, unless it is the frame read
missing_drop : (b e x : Bool) → (b && not x) ≡ true → (b && not (cond e false x)) ≡ true
missing_drop true true x h = refl
missing_drop true false x h = h
missing_drop false e x h = h

missing_read : (a b e y x : Bool) → bit (a && (b && not x)) ≤ bit (a && (b && not (cond e y x))) + bit e
missing_read a b true y x = omega (arith, bit_le_one (a && (b && not x)))
missing_read a b false y x = omega arith

-- a frame is delivered, held or missing
somewhere : (i n : ℕ) (b : Bool) → 1 ≤ bit (ltb i n) + (bit b + bit (leb n i && not b))
somewhere i n true = omega arith
somewhere i n false =
    elim (dec_lt i n) [
      | yes l ↦ rw (lt-ltb i n l) (omega arith)
      | no l ↦ (let g : n ≤ i = omega arith in rw (le-leb n i g) (omega arith))
    ]

module _ (m : ℕ) (cards : List ℕ) (D : ℕ) where
  abbrev L : ℕ
  L = length cards

  abbrev card : ℕ → ℕ
  card = card_of cards

  abbrev is_missing : Dock → ℕ → Bool
  is_missing d i = leb d.delivered i && not (d.held i)

  abbrev missing : Dock → ℕ → ℕ
  missing d c = how_many L (λ i. eqb (card i) c && is_missing d i)

  -- the bound of the reversed list
  abbrev B : ℕ → ℕ → ℕ
  B = bound m D L (card_of (reverse cards))

  -- what holds of the dock with k more ends of cycles to the finish
  abbrev Within : ℕ → Dock → Type 0
  Within zero d = L ≤ d.delivered
  Within (suc k) d = ((c : ℕ) → missing d c + bit (is_in c d.busy) ≤ suc (B k c)) × (L ≤ d.delivered + (m + sum D (B k)))

  -- with at most n frames not delivered, only the last n can be missing
  missing_last : (d : Dock) (n c : ℕ) → L ≤ d.delivered + n → missing d c ≤ on_card m D L (card_of (reverse cards)) (min L n) c
  missing_last d n c h =
      omega (
        arith,
        sum_reverse L (λ i. bit (eqb (card i) c && is_missing d i)),
        sum_cut L n (λ i. bit (eqb (card (L - suc i)) c && is_missing d (L - suc i))) (λ i. bit (eqb (card_of (reverse cards) i) c))
            (λ i l k. rw (reverse_get_or cards i l) (bit_and_le (eqb (card (L - suc i)) c) (is_missing d (L - suc i))))
            (λ i l k. bit_and_off (eqb (card (L - suc i)) c) (is_missing d (L - suc i))
            (rw (lt-leb d.delivered (L - suc i) (omega arith)))),
      )

  -- where no card has read yet, what is missing is under the bound
  missing_under_bound : (k : ℕ) (d : Dock) → Within k d → d.busy ≡ [] → (c : ℕ) → missing d c ≤ B k c
  missing_under_bound zero d w e c = let z : min L 0 ≡ 0 = omega arith in omega (arith, rw z at (missing_last d 0 c (omega arith)))
  missing_under_bound (suc k) d w e c =
      under_bound m D L (card_of (reverse cards)) k c (missing d c) (omega (arith, w.0 c)) (missing_last d (m + sum D (B k)) c w.1)

  missing_mono : (d d' : Dock) (c : ℕ)
      → ((i : ℕ) → card i ≡ c → is_missing d i ≡ true → is_missing d' i ≡ true) → missing d c ≤ missing d' c
  missing_mono d d' c h =
      sum_mono L (λ i. bit (eqb (card i) c && is_missing d i)) (λ i. bit (eqb (card i) c && is_missing d' i))
      (λ i l. bit_and_mono (eqb (card i) c) (is_missing d i) (is_missing d' i) (λ e. h i (eqb-true (card i) c e)))

  -- d' is one step after d: what holds of d' gives what held of d, with the same number of cycles in all
  abbrev Before : Dock → Dock → Type 0
  Before d d' = (k : ℕ) → Within k d' → (j : ℕ) × ((d'.ended + k ≡ d.ended + j) × Within j d)

  before_in_cycle : (d d' : Dock) → d'.delivered ≡ d.delivered → d'.ended ≡ d.ended
      → ((c : ℕ) → missing d c + bit (is_in c d.busy) ≤ missing d' c + bit (is_in c d'.busy)) → Before d d'
  before_in_cycle d d' h e u zero w = (0, (omega arith, omega arith))
  before_in_cycle d d' h e u (suc k) w = (suc k, (omega arith, (λ c. omega (arith, u c, w.0 c), omega (arith, w.1))))

  before_same : (d : Dock) → Before d d
  before_same d = before_in_cycle d d refl refl (λ c. omega arith)

  before_break : (d : Dock) → Before d (break_off d)
  before_break d = before_in_cycle d (break_off d) refl refl (λ c. omega arith)

  before_drop : (i : ℕ) (d : Dock) → Before d (perform cards (drop_frame i) d)
  before_drop i d =
      before_in_cycle d (perform cards (drop_frame i) d) refl refl
      (λ c. omega (arith, missing_mono d (perform cards (drop_frame i) d) c (λ j e a. missing_drop (leb d.delivered j) (eqb j i) (d.held j) a)))

  module _ (i : ℕ) (d : Dock) (free : is_in (card i) d.busy ≡ false) where
    abbrev d' : Dock
    d' = perform cards (read_frame i) d

    -- a read brings in one frame at most, and only of its own card
    one_read : (c : ℕ) → missing d c ≤ missing d' c + 1
    one_read c =
        omega (
          arith,
          sum_mono L (λ j. bit (eqb (card j) c && is_missing d j)) (λ j. bit (eqb (card j) c && is_missing d' j) + bit (eqb j i))
              (λ j l. missing_read (eqb (card j) c) (leb d.delivered j) (eqb j i) (d.held i || leb d.delivered i) (d.held j)),
          sum_add L (λ j. bit (eqb (card j) c && is_missing d' j)) (λ j. bit (eqb j i)),
          equal_at_most_one L i,
        )

    read_turn : (c : ℕ) → Dec (c ≡ card i) → missing d c + bit (is_in c d.busy) ≤ missing d' c + bit (eqb c (card i) || is_in c d.busy)
    read_turn c (yes e) =
        let z : is_in c d.busy ≡ false = cc in
        rw (z, eq-eqb c (card i) e) (omega (arith, one_read c))
    read_turn c (no n) =
        rw (ne_eqb c (card i) n)
        (omega (arith, missing_mono d d' c (λ j e a. rw (ne_eqb j i (λ q. n (cc))) a)))

    before_read : Before d d'
    before_read = before_in_cycle d d' refl refl (λ c. read_turn c (ℕ_discrete c (card i)))

  missing_end : (d : Dock) (i : ℕ) → is_missing d i ≡ true → is_missing (perform cards end_cycle d) i ≡ true
  missing_end d i a =
      let n : ℕ = deliver d.held (L - d.delivered) d.delivered in
      let free : d.held i ≡ false = not-true (d.held i) (and_right (leb d.delivered i) (not (d.held i)) a) in
      let from : d.delivered ≤ i = leb-true d.delivered i (and_left (leb d.delivered i) (not (d.held i)) a) in
      elim (dec_le n i) [
        | yes l ↦ rw (free, le-leb n i l)
        | no g ↦ (let e : d.held i ≡ true = deliver_held d.held (L - d.delivered) d.delivered i from (omega arith) in cc)
      ]

  module _ (low : (i : ℕ) → i < L → card i < D) where
    -- every frame is delivered, held or missing
    all_somewhere : (d : Dock) → L ≤ d.delivered + (holding cards d + sum D (missing d))
    all_somewhere d =
        omega (
          arith,
          sum_one L,
          sum_mono L (λ i. 1) (λ i. bit (ltb i d.delivered) + (bit (d.held i) + bit (is_missing d i)))
              (λ i l. somewhere i d.delivered (d.held i)),
          sum_add L (λ i. bit (ltb i d.delivered)) (λ i. bit (d.held i) + bit (is_missing d i)),
          sum_add L (λ i. bit (d.held i)) (λ i. bit (is_missing d i)),
          over_cards L D card (is_missing d) low,
          below_at_most L d.delivered,
        )

    before_end : (d : Dock) → holding cards d ≤ m → Before d (perform cards end_cycle d)
    before_end d few k w =
        let after : Dock = perform cards end_cycle d in
        let u : (c : ℕ) → missing d c ≤ B k c =
        λ c. omega (arith, missing_under_bound k after w refl c, missing_mono d after c (λ i e a. missing_end d i a)) in
        let sums : sum D (missing d) ≤ sum D (B k) = sum_mono D (missing d) (B k) (λ c l. u c) in
        (suc k, (omega arith, (λ c. omega (arith, u c, bit_le_one (is_in c d.busy)), omega (arith, all_somewhere d, sums))))

    before_step : (a : Step) (d : Dock) → Before d (step m cards a d)
    before_step (read_frame i) d =
        by_test (Before d) d.broken d _ (λ e. before_same d)
        (λ e. by_test (Before d) (against m cards (read_frame i) d) (break_off d) (perform cards (read_frame i) d) (λ f. before_break d)
        (λ f. before_read i d (or_neither (leb L i) (is_in (card i) d.busy) f)))
    before_step (drop_frame i) d =
        by_test (Before d) d.broken d _ (λ e. before_same d)
        (λ e. by_test (Before d) (against m cards (drop_frame i) d) (break_off d) (perform cards (drop_frame i) d) (λ f. before_break d) (λ f. before_drop i d))
    before_step end_cycle d =
        by_test (Before d) d.broken d _ (λ e. before_same d)
        (λ e. by_test (Before d) (against m cards end_cycle d) (break_off d) (perform cards end_cycle d) (λ f. before_break d)
        (λ f. before_end d (ltb-false m (holding cards d) f)))

    before_run : (steps : List Step) (d : Dock) → L ≤ (run m cards steps d).delivered
        → (j : ℕ) × (((run m cards steps d).ended ≡ d.ended + j) × Within j d)
    unfolding run
    before_run [] d h = (0, (omega arith, h))
    before_run (a ∷ steps) d h =
        let after : Dock = step m cards a d in
        let r : (j : ℕ) × (((run m cards steps after).ended ≡ after.ended + j) × Within j after) = before_run steps after h in
        let t : (j : ℕ) × ((after.ended + r.0 ≡ d.ended + j) × Within j d) = before_step a d r.0 r.1.1 in
        (t.0, (omega arith, t.1.1))

    -- the cycles ended when all is delivered are at least the first t at which the bound reaches all frames
    pub dock_bound : (steps : List Step) → L ≤ (run m cards steps empty_dock).delivered → L ≤ sum D (B (run m cards steps empty_dock).ended)
    dock_bound steps h =
        let r : (j : ℕ) × (((run m cards steps empty_dock).ended ≡ 0 + j) × Within j empty_dock) = before_run steps empty_dock h in
        let e : (run m cards steps empty_dock).ended ≡ r.0 = omega arith in
        rw e
        (omega (
          arith,
          all_somewhere empty_dock,
          sum_zero L,
          sum_mono D (missing empty_dock) (B r.0) (λ c l. missing_under_bound r.0 empty_dock r.1.1 refl c),
        ))
