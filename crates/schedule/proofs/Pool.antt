-- What one cycle of greedy_writing does to the pool, card by card. Frames 0 to n − 1 have entered; `y i` is frame i's cycle, 0 while it waits.
-- Assumes nothing.
use Prim.Native.Nat.{ℕ, suc, ◌+◌, ◌≤◌, ◌<◌, min}
use mathlib.Core.Path.{◌≡◌, refl, sym, ap, ◌∙◌}
use mathlib.Core.Bool.{Bool, true, false, not, ◌&&◌, cond}
use mathlib.Core.List.{List}
use native.Mathlib.Omega.{arith}
use native.Mathlib.Decide.{ℕ_discrete}
use lib.Dec.{eqb, eqb-suc-zero}
use lib.ListN.{length}
use borrow.Author.Tests.{eq-eqb, ne_eqb, eqb-true}
use Rattle.counting.specs.Count.{bit, sum, how_many}
use Rattle.counting.specs.Frames.{card_of}
use Rattle.counting.proofs.Bits.{and_left, and_right, bit_split}
use Rattle.counting.proofs.Sums.{over_cards, sum_cong, sum_add, sum_one, sum_term_le, one_is_first, sum_some}

-- a frame is written after a cycle: it was before, or it was its card's first
written_after : (w f : Bool) (x t : ℕ) → eqb x 0 ≡ w → bit (not (eqb (cond (w && f) (suc t) x) 0)) ≡ bit (not w) + bit (w && f)
written_after true true x t e = rw (eqb-suc-zero t)
written_after true false x t e = rw e
written_after false f x t e = rw e

-- a cycle is up to t + 1 if it was up to t or is t + 1
cond_le : (b : Bool) (x t : ℕ) → x ≤ t → cond b (suc t) x ≤ suc t
cond_le true x t h = omega arith
cond_le false x t h = omega arith

-- two frames that are not both written now have the same cycle only while both wait
cond_rule : (a b : Bool) (x y t : ℕ) → x ≤ t → y ≤ t
    → (a ≡ true → b ≡ true → ⊥) → (x ≡ y → x ≡ 0) → cond a (suc t) x ≡ cond b (suc t) y
    → cond a (suc t) x ≡ 0
cond_rule true true x y t h g n r e = absurd (n refl refl)
cond_rule true false x y t h g n r e = absurd (omega arith)
cond_rule false true x y t h g n r e = absurd (omega arith)
cond_rule false false x y t h g n r e = r e

module _ (cards : List ℕ) where
  abbrev card : ℕ → ℕ
  card = card_of cards

  -- frame i waits; it waits and is on card c; it waits and is the first of its card that does
  abbrev pub wait : (ℕ → ℕ) → ℕ → Bool
  wait y i = eqb (y i) 0

  abbrev pub wait_on : (ℕ → ℕ) → ℕ → ℕ → Bool
  wait_on y c i = eqb (card i) c && wait y i

  abbrev pub first : (ℕ → ℕ) → ℕ → Bool
  first y i = wait y i && eqb (how_many i (wait_on y (card i))) 0

  -- how many frames of card c are written, and wait
  abbrev pub written : ℕ → (ℕ → ℕ) → ℕ → ℕ
  written n y c = how_many n (λ i. eqb (card i) c && not (wait y i))

  abbrev pub waiting : ℕ → (ℕ → ℕ) → ℕ → ℕ
  waiting n y c = how_many n (wait_on y c)

  -- y' is y after cycle t + 1
  abbrev pub Cycled : ℕ → (ℕ → ℕ) → ℕ → (ℕ → ℕ) → Type 0
  Cycled n y t y' = (i : ℕ) → i < n → y' i ≡ cond (first y i) (suc t) (y i)

  pub written_waiting : (n : ℕ) (y : ℕ → ℕ) (c : ℕ) → written n y c + waiting n y c ≡ how_many n (λ i. eqb (card i) c)
  written_waiting n y c =
      sym (sum_add n (λ i. bit (eqb (card i) c && not (wait y i))) (λ i. bit (wait_on y c i)))
      ∙ sum_cong n (λ i. bit (eqb (card i) c && not (wait y i)) + bit (wait_on y c i)) (λ i. bit (eqb (card i) c))
      (λ i l. bit_split (eqb (card i) c) (wait y i))

  -- a cycle writes one frame of each card that has one waiting
  written_point : (n : ℕ) (y : ℕ → ℕ) (t : ℕ) (y' : ℕ → ℕ) → Cycled n y t y' → (c i : ℕ) → i < n
      → bit (eqb (card i) c && not (wait y' i)) ≡ bit (eqb (card i) c && not (wait y i)) + bit (wait_on y c i && eqb (how_many i (wait_on y c)) 0)
  written_point n y t y' h c i l =
      elim (ℕ_discrete (card i) c) [
        | yes e ↦
            (let g : y' i ≡ cond (wait y i && eqb (how_many i (wait_on y c)) 0) (suc t) (y i) = rw e at (h i l) in
            rw (eq-eqb (card i) c e, g) (written_after (wait y i) (eqb (how_many i (wait_on y c)) 0) (y i) t refl))
        | no e ↦ rw (ne_eqb (card i) c e) refl
      ]

  pub written_next : (n : ℕ) (y : ℕ → ℕ) (t : ℕ) (y' : ℕ → ℕ) → Cycled n y t y'
      → (c : ℕ) → written n y' c ≡ written n y c + min 1 (waiting n y c)
  written_next n y t y' h c =
      omega (
        arith,
        sum_cong n (λ i. bit (eqb (card i) c && not (wait y' i)))
            (λ i. bit (eqb (card i) c && not (wait y i)) + bit (wait_on y c i && eqb (how_many i (wait_on y c)) 0))
            (written_point n y t y' h c),
        sum_add n (λ i. bit (eqb (card i) c && not (wait y i))) (λ i. bit (wait_on y c i && eqb (how_many i (wait_on y c)) 0)),
        one_is_first n (wait_on y c),
      )

  -- of two frames of one card, the first that waits hides the other
  first_hides : (y : ℕ → ℕ) (i j : ℕ) → i < j → card i ≡ card j → first y i ≡ true → first y j ≡ true → ⊥
  first_hides y i j l c a b =
      let mine : wait_on y (card j) i ≡ true = rw (eq-eqb (card i) (card j) c) (and_left (wait y i) (eqb (how_many i (wait_on y (card i))) 0) a) in
      omega (
        arith,
        sum_term_le j (λ k. bit (wait_on y (card j) k)) i l,
        ap bit mine,
        eqb-true (how_many j (wait_on y (card j))) 0 (and_right (wait y j) (eqb (how_many j (wait_on y (card j))) 0) b),
      )

  -- after a cycle, cycles are up to t + 1, and no card has two frames in one
  module _ (n : ℕ) (y : ℕ → ℕ) (t : ℕ) (y' : ℕ → ℕ) (h : Cycled n y t y') (made : (i : ℕ) → i < n → y i ≤ t) where
    pub made_next : (i : ℕ) → i < n → y' i ≤ suc t
    made_next i l = rw (h i l) (cond_le (first y i) (y i) t (made i l))

    pub card_rule_next : ((i j : ℕ) → i < j → j < n → card i ≡ card j → y i ≡ y j → y i ≡ 0)
        → (i j : ℕ) → i < j → j < n → card i ≡ card j → y' i ≡ y' j → y' i ≡ 0
    card_rule_next rule i j l k c e =
        let b : i < n = omega arith in
        rw (h i b)
        (cond_rule (first y i) (first y j) (y i) (y j) t (made i b) (made j k) (first_hides y i j l c) (rule i j l k c) (rw (h i b, h j k) at e))

  module _ (D : ℕ) (low : (i : ℕ) → i < length cards → card i < D) where
    -- every frame waits or is written
    pub pool_written : (n : ℕ) (y : ℕ → ℕ) → n ≤ length cards → how_many n (wait y) + sum D (written n y) ≡ n
    pool_written n y h =
        omega (
          arith,
          over_cards n D card (λ i. not (wait y i)) (λ i l. low i (omega arith)),
          sum_add n (λ i. bit (not (wait y i))) (λ i. bit (wait y i)),
          sum_cong n (λ i. bit (not (wait y i)) + bit (wait y i)) (λ i. 1) (λ i l. bit_split true (wait y i)),
          sum_one n,
        )

    -- a cycle makes the pool smaller
    pub pool_next : (n : ℕ) (y : ℕ → ℕ) (t : ℕ) (y' : ℕ → ℕ) → Cycled n y t y' → n ≤ length cards → 1 ≤ how_many n (wait y)
        → how_many n (wait y') < how_many n (wait y)
    pool_next n y t y' h inside some =
        omega (
          arith,
          pool_written n y inside,
          pool_written n y' inside,
          sum_cong D (written n y') (λ c. written n y c + min 1 (waiting n y c)) (λ c l. written_next n y t y' h c),
          sum_add D (written n y) (λ c. min 1 (waiting n y c)),
          sum_some D (waiting n y) (omega (arith, over_cards n D card (wait y) (λ i l. low i (omega arith)))),
        )
