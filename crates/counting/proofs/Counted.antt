-- The loads of the cards with one frame more, a table of them for D cards, and the loads from the list's other end.
-- Assumes nothing.
use Prim.Native.Nat.{ℕ, zero, suc, ◌+◌, ◌-◌, ◌≤◌, ◌<◌}
use mathlib.Core.Path.{◌≡◌, refl, sym, ap}
use mathlib.Core.List.{List, ◌++◌, reverse}
use native.Mathlib.Omega.{arith}
use native.Mathlib.Nat.{sub-zero}
use native.Mathlib.Numerals.{add-one}
use lib.Dec.{eqb}
use lib.ListN.{length, get_or, set, get_or-append}
use borrow.Author.Tests.{eq-eqb, ne_eqb}
use Rattle.counting.specs.Count.{bit, tabulate}
use Rattle.counting.specs.Frames.{card_of, load}
use Rattle.counting.proofs.Lists.{get_or_tabulate, tabulate_cong, set_tabulate, reverse_get_or}
use Rattle.counting.proofs.Sums.{sum_cong, how_many_le}

-- one frame more is on its own card, and on no other
module _ (cards : List ℕ) (i : ℕ) where
  pub load_own : load cards (suc i) (card_of cards i) ≡ suc (load cards i (card_of cards i))
  load_own = rw (eq-eqb (card_of cards i) (card_of cards i) refl) (omega arith)

  pub load_other : (c : ℕ) → (c ≡ card_of cards i → ⊥) → load cards (suc i) c ≡ load cards i c
  load_other c n = rw (ne_eqb (card_of cards i) c (λ e. n (sym e))) (omega arith)

-- a table of loads
module _
    (D : ℕ) (cards count : List ℕ) (i : ℕ) (e : count ≡ tabulate D (load cards i)) (l : card_of cards i < D)
    (k : ℕ) (q : k ≡ card_of cards i) where
  count_read : get_or count k 0 ≡ load cards i k
  count_read = rw (e, q) (get_or_tabulate D (load cards i) (card_of cards i) 0 l)

  pub count_small : get_or count k 0 ≤ i
  count_small = rw count_read (how_many_le i (λ j. eqb (card_of cards j) k))

  pub count_next : set count k (get_or count k 0 + 1) ≡ tabulate D (load cards (i + 1))
  count_next =
      let more : load cards i (card_of cards i) + 1 ≡ load cards (suc i) (card_of cards i) = omega (arith, load_own cards i) in
      rw (count_read, e, q, more, add-one i)
      (set_tabulate D (load cards i) (load cards (suc i)) (card_of cards i) l (λ c h n. sym (load_other cards i c n)))

-- what stands behind the frames counted does not count
pub counts_front :
    (D : ℕ) (cards rest : List ℕ) → tabulate D (load (cards ++ rest) (length cards)) ≡ tabulate D (load cards (length cards))
counts_front D cards rest =
    tabulate_cong D (load (cards ++ rest) (length cards)) (load cards (length cards))
    (λ c h.
    sum_cong (length cards) (λ i. bit (eqb (card_of (cards ++ rest) i) c)) (λ i. bit (eqb (card_of cards i) c))
    (λ i k. ap (λ (x : ℕ). bit (eqb x c)) (get_or-append cards rest 0 i k)))

-- the first n of the reversed list are the last n of the list
pub load_reverse : (cards : List ℕ) (n c : ℕ) → n ≤ length cards
    → load (reverse cards) n c + load cards (length cards - n) c ≡ load cards (length cards) c
load_reverse cards zero c h = rw (sub-zero (length cards)) (omega arith)
load_reverse cards (suc n) c h =
    let next : length cards - n ≡ suc (length cards - suc n) = omega arith in
    let before : load (reverse cards) n c + load cards (suc (length cards - suc n)) c ≡ load cards (length cards) c =
    rw next at (load_reverse cards n c (omega arith)) in
    omega (arith, before, ap (λ x. bit (eqb x c)) (reverse_get_or cards n h))
