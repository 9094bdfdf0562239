-- The bound that carries both optimality theorems: how many frames of each card can be done after t cycles.
-- With w c frames of card c done, the frames that can be in the pool or done are the first m + (all done); a cycle does one more frame of
-- a card, if it has one there. No schedule and no list of dock steps beats this, and greedy_writing reaches it.
-- Assumes nothing.
use Prim.Native.Nat.{ℕ, zero, suc, ◌+◌, ◌≤◌, min}
use mathlib.Core.Path.{◌≡◌, refl}
use native.Mathlib.Omega.{arith}
use lib.Dec.{eqb}
use Rattle.counting.specs.Count.{sum, how_many}

-- a list of L frames on D cards, given by each frame's card
module _ (m D L : ℕ) (card : ℕ → ℕ) where
  -- how many of the first n frames card c has
  abbrev pub on_card : ℕ → ℕ → ℕ
  on_card n c = how_many n (λ i. eqb (card i) c)

  -- how many frames can have entered the pool with w done
  abbrev pub admitted : (ℕ → ℕ) → ℕ
  admitted w = min L (m + sum D w)

  -- the most frames of card c that can be done after t cycles
  unfoldable pub bound : ℕ → ℕ → ℕ
  bound zero c = 0
  bound (suc t) c = min (suc (bound t c)) (on_card (admitted (bound t)) c)

  pub bound_zero : (c : ℕ) → bound 0 c ≡ 0
  unfolding bound
  bound_zero c = refl

  pub bound_suc : (t c : ℕ) → bound (suc t) c ≡ min (suc (bound t c)) (on_card (admitted (bound t)) c)
  unfolding bound
  bound_suc t c = refl

  -- what keeps both rules of a cycle stays under the bound
  pub under_bound : (t c x : ℕ) → x ≤ suc (bound t c) → x ≤ on_card (admitted (bound t)) c → x ≤ bound (suc t) c
  under_bound t c x h k = omega (arith, bound_suc t c)
