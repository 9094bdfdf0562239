-- The cycles of a plan after a step of greedy_writing: a frame enters, or one cycle is made.
-- Assumes nothing.
use Prim.Native.Nat.{ℕ, suc, ◌<◌}
use mathlib.Core.Path.{◌≡◌, refl}
use mathlib.Core.Bool.{Bool, true, false, not, ◌&&◌, cond}
use mathlib.Core.List.{List, [], ◌∷◌}
use lib.Dec.{eqb, eqb-zero-suc, eqb-suc-zero}
use lib.ListN.{length, get_or-append}
use lib.Seq.{get_or_at}
use borrow.Author.Tests.{eq-eqb, eqb-true}
use Rattle.counting.specs.Count.{how_many}
use Rattle.counting.specs.Frames.{card_of}
use Rattle.schedule.specs.Schedule.{cycle_of}
use Rattle.schedule.specs.Greedy.{Plan, waits, enter, is_first, one_cycle}
use Rattle.counting.proofs.Lists.{length_tabulate, get_or_tabulate}
use Rattle.counting.proofs.Snoc.{length_snoc}

-- a frame enters
pub enter_length : (p : Plan) → length (enter p).cycles ≡ suc (length p.cycles)
enter_length p = length_snoc p.cycles 0

pub enter_old : (p : Plan) (i : ℕ) → i < length p.cycles → cycle_of (enter p).cycles i ≡ cycle_of p.cycles i
enter_old p i l = get_or-append p.cycles (0 ∷ []) 0 i l

pub enter_new : (p : Plan) → cycle_of (enter p).cycles (length p.cycles) ≡ 0
enter_new p = get_or_at p.cycles 0 [] 0 (length p.cycles) refl

-- whether no frame of frame i's card waits before it
abbrev pub none_before : List ℕ → List ℕ → ℕ → Bool
none_before cards cycles i = eqb (how_many i (λ j. eqb (card_of cards j) (card_of cards i) && waits cycles j)) 0

-- a frame that waits is written in cycle t + 1 or waits on
waits_on : (b : Bool) (x t : ℕ) → eqb x 0 ≡ true → eqb (cond b (suc t) x) 0 ≡ not b
waits_on true x t e = eqb-suc-zero t
waits_on false x t e = e

written_now : (b : Bool) (x t : ℕ) → eqb x 0 ≡ true → eqb (cond b (suc t) x) (suc t) ≡ b
written_now true x t e = eq-eqb (suc t) (suc t) refl
written_now false x t e = rw (eqb-true x 0 e) (eqb-zero-suc t)

module _ (cards : List ℕ) (p : Plan) where
  pub next_length : length (one_cycle cards p).cycles ≡ length p.cycles
  next_length = length_tabulate (length p.cycles) (λ i. cond (is_first cards p.cycles i) (suc p.T) (cycle_of p.cycles i))

  pub next_cycle : (i : ℕ) → i < length p.cycles
      → cycle_of (one_cycle cards p).cycles i ≡ cond (is_first cards p.cycles i) (suc p.T) (cycle_of p.cycles i)
  next_cycle i l =
      get_or_tabulate (length p.cycles) (λ i. cond (is_first cards p.cycles i) (suc p.T) (cycle_of p.cycles i)) i 0 l

  pub next_stays : (i : ℕ) → i < length p.cycles → waits p.cycles i ≡ false → cycle_of (one_cycle cards p).cycles i ≡ cycle_of p.cycles i
  next_stays i l e = rw e at (next_cycle i l)

  pub next_waits : (i : ℕ) → i < length p.cycles → waits p.cycles i ≡ true
      → waits (one_cycle cards p).cycles i ≡ not (none_before cards p.cycles i)
  next_waits i l e =
      rw (next_cycle i l, e) (waits_on (none_before cards p.cycles i) (cycle_of p.cycles i) p.T e)

  pub next_written : (i : ℕ) → i < length p.cycles → waits p.cycles i ≡ true
      → eqb (cycle_of (one_cycle cards p).cycles i) (suc p.T) ≡ none_before cards p.cycles i
  next_written i l e =
      rw (next_cycle i l, e) (written_now (none_before cards p.cycles i) (cycle_of p.cycles i) p.T e)
