-- From one pass to the plan of each mode.
-- Assumes nothing.
use Prim.Native.Nat.{ℕ, zero, suc, ◌+◌, ◌-◌, ◌≤◌, ◌<◌}
use mathlib.Core.Path.{◌≡◌, refl, ap, ◌∙◌}
use mathlib.Core.Bool.{true, false, cond}
use mathlib.Core.List.{List, [], ◌∷◌, ◌++◌, map, reverse}
use native.Mathlib.Omega.{arith}
use native.Mathlib.Decide.{ℕ_discrete}
use lib.Dec.{ltb}
use lib.ListN.{length, get_or, take, drop, length-append, length-map, length-reverse, get_or-append}
use borrow.Author.Tests.{eq-eqb, ne_eqb}
use lib.Seq.{take_at, drop_at, get_or-take, length-take-le}
use Rattle.std.proofs.lemmas.List.{take_all, drop_all, append-nil}
use Rattle.counting.specs.Count.{written}
use Rattle.schedule.specs.Schedule.{cycle_of}
use Rattle.schedule.specs.Greedy.{Plan, in_pool, enter, is_first, one_cycle, save_first, save_and_keep, greedy_writing, lazy_prefetching}
use Rattle.counting.proofs.Firsts.{Replaced, next_as_before}
use Rattle.counting.proofs.Lists.{length_tabulate, le_largest, reverse_get_or, map_reverse}
use Rattle.counting.proofs.Bits.{by_test}
use Rattle.schedule.proofs.Main.{save_correct, read_correct, save_length}
use Rattle.header.specs.Limits.{mode_read, mode_save}
use Rattle.greedy_pass.specs.AsOf.{as_of}
use Rattle.mode_plans.specs.Plans.{plan_for}
use Rattle.greedy_pass.specs.Pass.{Asked, Passed}
use Rattle.mode_plans.specs.Filled.{Filled}

-- a loop at its end has replaced each element
pub replaced_all : {f : ℕ → ℕ} {i : ℕ} {before now : List ℕ} → Replaced f i before now → length before ≤ i → now ≡ map f before
replaced_all {f} {i} {before} v l = v.so_far ∙ rw (take_all i before l, drop_all i before l) (append-nil (map f before))

-- the elements written are replaced by f of them
map_written :
    (f : ℕ → ℕ) (n : ℕ) (l before : List ℕ) → length l ≡ n
    → map f (take n (written l before)) ++ drop n (written l before) ≡ written (map f l) before
map_written f n l before e =
    rw (take_at l (drop (length l) before) n e, drop_at l (drop (length l) before) n e, length-map l f)

-- the plan of each mode
module _ (mode m : ℕ) (cards : List ℕ) where
  pub plan_read : mode ≡ mode_read → plan_for mode m cards ≡ lazy_prefetching m cards
  plan_read e = rw (eq-eqb mode mode_read e)

  pub plan_save : mode ≡ mode_save → plan_for mode m cards ≡ greedy_writing m cards
  plan_save e = rw e

  pub plan_keep : (mode ≡ mode_read → ⊥) → (mode ≡ mode_save → ⊥) → plan_for mode m cards ≡ save_and_keep m cards
  plan_keep e g = rw (ne_eqb mode mode_read e, ne_eqb mode mode_save g)

  length_cycle : (p : Plan) → length (one_cycle cards p).cycles ≡ length p.cycles
  length_cycle p = length_tabulate (length p.cycles) (λ i. cond (is_first cards p.cycles i) (suc p.T) (cycle_of p.cycles i))

  saved_length : (n : ℕ) → length (save_first cards m n).cycles ≡ n
  saved_length zero = refl
  saved_length (suc n) =
      let p = save_first cards m n in
      by_test (λ r. length (enter r).cycles ≡ suc n) (ltb (in_pool p.cycles) m) p (one_cycle cards p)
      (λ e. omega (arith, length-append p.cycles (0 ∷ []), saved_length n))
      (λ e. omega (arith, length-append (one_cycle cards p).cycles (0 ∷ []), length_cycle p, saved_length n))

  -- a plan has a cycle for each frame, in every mode
  pub plan_length : 1 ≤ m → length (plan_for mode m cards).cycles ≡ length cards
  unfolding save_and_keep
  plan_length pool =
      elim (ℕ_discrete mode mode_read) [
        | yes e ↦ rw (plan_read e) (read_correct m cards pool).proper.one_each
        | no n ↦
            elim (ℕ_discrete mode mode_save) [
              | yes e ↦ rw (plan_save e) (save_correct m cards pool).proper.one_each
              | no k ↦ rw (plan_keep n k) (saved_length (length cards))
            ]
      ]

module _ {m : ℕ} {cards before after : List ℕ} {made all : ℕ} (f : Asked m cards before) where
  pub saved : Passed m false cards before after made all → Filled (greedy_writing m cards) before after all
  saved p = record { buffer = p.filled; length_is = p.all_is }

  pub kept : {front : List ℕ} → Passed m false cards before after made all → front ≡ map (as_of made) (take (length cards) after)
      → Filled (save_and_keep m cards) before (front ++ drop (length cards) after) made
  kept p e =
      record {
        buffer =
            ap (λ l. l ++ drop (length cards) after) e
            ∙ rw (p.filled, p.kept)
            (map_written (as_of made) (length cards) (greedy_writing m cards).cycles before (save_correct m cards f.pool).proper.one_each);
        length_is = p.made_is;
      }

  module _ (p : Passed m true cards before after made all) where
    abbrev back : List ℕ
    back = (greedy_writing m (reverse cards)).cycles

    back_length : length back ≡ length cards
    back_length = (save_correct m (reverse cards) f.pool).proper.one_each ∙ length-reverse cards

    abbrev turn : ℕ → ℕ
    turn c = all - c + 1

    -- the places that are turned round
    front_length : length (take (length cards) after) ≡ length cards
    front_length =
        rw p.filled
        (length-take-le (length cards) (written (reverse back) before)
        (omega (arith, length-append (reverse back) (drop (length (reverse back)) before), length-reverse back, back_length)))

    -- what turning the cycle at the next of them round asks for
    pub cycle_le : {f : ℕ → ℕ} {i : ℕ} {now : List ℕ} → Replaced f i (take (length cards) after) now → i < length (take (length cards) after)
        → get_or now i 0 ≤ all
    cycle_le {i = i} v l =
        rw (
          next_as_before v,
          get_or-take (length cards) after i 0 (omega (arith, front_length)),
          p.filled,
          get_or-append (reverse back) (drop (length (reverse back)) before) 0 i (omega (arith, front_length, length-reverse back, back_length)),
          reverse_get_or back i (omega (arith, front_length, back_length)),
        )
        (omega (arith, le_largest back (length back - suc i), save_length m (reverse cards) f.pool, p.all_is))

    pub turned_round : {front : List ℕ} → front ≡ map turn (take (length cards) after)
        → Filled (lazy_prefetching m cards) before (front ++ drop (length cards) after) all
    unfolding lazy_prefetching
    turned_round e =
        record {
          buffer =
              ap (λ l. l ++ drop (length cards) after) e
              ∙ rw p.filled
              (map_written turn (length cards) (reverse back) before (length-reverse back ∙ back_length)
              ∙ rw (map_reverse turn back, p.all_is));
          length_is = p.all_is;
        }
