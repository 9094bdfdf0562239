-- greedy_writing step by step keeps the invariant; so its plan is a correct save schedule, and no cycle is made that the bound does not force.
-- Assumes nothing.
use Prim.Native.Nat.{ℕ, zero, suc, ◌+◌, ◌≤◌, ◌<◌, zero-le}
use mathlib.Core.Path.{◌≡◌, refl, sym, ap, ◌∙◌}
use mathlib.Core.Logic.{◌≢◌}
use mathlib.Core.Bool.{◌||◌, cond}
use mathlib.Core.List.{List, [], ◌∷◌}
use native.Mathlib.Omega.{arith}
use lib.Dec.{eqb, leb, ltb}
use lib.ListN.{length, length-append, get_or-append}
use lib.Seq.{get_or_at}
use borrow.Author.Tests.{eqb-true, eqb-false, ltb-true, ltb-false}
use Rattle.counting.specs.Count.{bit, sum, how_many}
use Rattle.counting.specs.Frames.{card_of}
use Rattle.schedule.specs.Schedule.{cycle_of, CorrectSave}
use Rattle.schedule.specs.Greedy.{Plan, in_pool, empty_plan, enter, is_first, one_cycle, save_frame, save_first, flush, save_and_keep, greedy_writing}
use Rattle.counting.proofs.Bits.{by_cases, by_test, bit_or_le}
use Rattle.counting.proofs.Sums.{sum_mono, sum_term_le}
use Rattle.counting.proofs.Lists.{length_tabulate, get_or_tabulate}
use Rattle.schedule.proofs.Bound.{admitted, bound, bound_zero}
use Rattle.schedule.proofs.Pool.{wait, Cycled, pool_written, pool_next}
use Rattle.schedule.proofs.Invariant.{Inv, inv_cycle, inv_enter, written_total}

module _ (m : ℕ) (cards : List ℕ) (D : ℕ) (low : (i : ℕ) → i < length cards → card_of cards i < D) where
  abbrev L : ℕ
  L = length cards

  abbrev B : ℕ → ℕ → ℕ
  B = bound m D L (card_of cards)

  abbrev at : Plan → ℕ → ℕ
  at p = cycle_of p.cycles

  -- a plan in the making with n frames entered
  pub record Good (n : ℕ) (p : Plan) : Type 0 where
    pub long : length p.cycles ≡ n
    pub inv : Inv m cards D low n (at p) p.T

  pool_is : (n : ℕ) (p : Plan) → Good n p → in_pool p.cycles ≡ how_many n (wait cards (at p))
  pool_is n p g = rw g.long

  pub pool_total : (n : ℕ) (p : Plan) → Good n p → in_pool p.cycles + sum D (B p.T) ≡ n
  pool_total n p g =
      omega (arith, pool_is n p g, pool_written cards D low n (at p) g.inv.inside, written_total m cards D low n (at p) p.T g.inv)

  good_empty : Good 0 empty_plan
  good_empty =
      record {
        long = refl;
        inv =
            record {
              inside = zero-le;
              pool_small = zero-le;
              meets_bound = λ c. sym (bound_zero m D L (card_of cards) c);
              met_bound = λ u c k. let e : u ≡ 0 = omega arith in rw e (sym (bound_zero m D L (card_of cards) c));
              no_cycle_lost = λ e k. zero-le;
              cycles_made = λ i l. zero-le;
              card_rule = λ i j l k c e. refl;
              pool_rule = λ i l k. absurd (omega arith);
            };
      }

  good_cycle : (n : ℕ) (p : Plan) → Good n p → 1 ≤ in_pool p.cycles → n ≡ admitted m D L (card_of cards) (B p.T)
      → Good n (one_cycle cards p) × (in_pool (one_cycle cards p).cycles < in_pool p.cycles)
  good_cycle n p g k full =
      let f : ℕ → ℕ = λ i. cond (is_first cards p.cycles i) (suc p.T) (at p i) in
      let h : Cycled cards n (at p) p.T (at (one_cycle cards p)) = λ i l. get_or_tabulate (length p.cycles) f i 0 (omega (arith, g.long)) in
      let some : 1 ≤ how_many n (wait cards (at p)) = omega (arith, pool_is n p g) in
      let g' : Good n (one_cycle cards p) =
      record {
        long = length_tabulate (length p.cycles) f ∙ g.long;
        inv = inv_cycle m cards D low n (at p) p.T (at (one_cycle cards p)) g.inv h some full;
      } in (
        g',
        omega (arith, pool_is n p g, pool_is n (one_cycle cards p) g', pool_next cards D low n (at p) p.T (at (one_cycle cards p)) h g.inv.inside some),
      )

  good_enter : (n : ℕ) (p : Plan) → Good n p → n < L → in_pool p.cycles < m → Good (suc n) (enter p)
  good_enter n p g l r =
      record {
        long = omega (arith, length-append p.cycles (0 ∷ []), g.long);
        inv =
            inv_enter m cards D low n (at p) p.T (at (enter p)) g.inv l (omega (arith, pool_is n p g))
            (λ i k. get_or-append p.cycles (0 ∷ []) 0 i (omega (arith, g.long)))
            (get_or_at p.cycles 0 [] 0 n g.long);
      }

  module _ (pos : 1 ≤ m) where
    good_save : (n : ℕ) (p : Plan) → Good n p → n < L → Good (suc n) (save_frame cards m p)
    good_save n p g l =
        by_test (λ r. Good (suc n) (enter r)) (ltb (in_pool p.cycles) m) p (one_cycle cards p)
        (λ e. good_enter n p g l (ltb-true (in_pool p.cycles) m e))
        (λ e.
        let full : m ≤ in_pool p.cycles = ltb-false (in_pool p.cycles) m e in
        let r : Good n (one_cycle cards p) × (in_pool (one_cycle cards p).cycles < in_pool p.cycles) =
        good_cycle n p g (omega arith) (omega (arith, pool_total n p g, g.inv.pool_small, pool_is n p g)) in
        good_enter n (one_cycle cards p) r.0 l (omega (arith, g.inv.pool_small, pool_is n p g)))

    pub good_save_first : (n : ℕ) → n ≤ L → Good n (save_first cards m n)
    good_save_first zero h = good_empty
    good_save_first (suc n) h = good_save n (save_first cards m n) (good_save_first n (omega arith)) h

    good_flush : (k : ℕ) (p : Plan) → Good L p → in_pool p.cycles ≤ k → Good L (flush cards k p) × (in_pool (flush cards k p).cycles ≡ 0)
    good_flush zero p g h = (g, omega arith)
    good_flush (suc k) p g h =
        by_test (λ r. Good L r × (in_pool r.cycles ≡ 0)) (eqb (in_pool p.cycles) 0) p (flush cards k (one_cycle cards p))
        (λ e. (g, eqb-true (in_pool p.cycles) 0 e))
        (λ e.
        let some : in_pool p.cycles ≢ 0 = eqb-false (in_pool p.cycles) 0 e in
        let r : Good L (one_cycle cards p) × (in_pool (one_cycle cards p).cycles < in_pool p.cycles) =
        good_cycle L p g (omega arith) (omega (arith, pool_total L p g, g.inv.pool_small, pool_is L p g)) in
        good_flush k (one_cycle cards p) r.0 (omega arith))

    abbrev plan : Plan
    plan = greedy_writing m cards

    good_greedy : Good L plan × (in_pool plan.cycles ≡ 0)
    unfolding greedy_writing save_and_keep
    good_greedy =
        let g : Good L (save_first cards m L) = good_save_first L (omega arith) in
        good_flush L (save_first cards m L) g (omega (arith, pool_total L (save_first cards m L) g))

    -- no cycle is made that the bound does not force
    pub greedy_under_bound : (t : ℕ) → L ≤ sum D (B t) → plan.T ≤ t
    greedy_under_bound = good_greedy.0.inv.no_cycle_lost

    pub greedy_cycles_made : (i : ℕ) → i < L → at plan i ≤ plan.T
    greedy_cycles_made = good_greedy.0.inv.cycles_made

    greedy_from_one : (i : ℕ) → i < L → 1 ≤ at plan i
    greedy_from_one i l =
        by_cases (wait cards (at plan) i)
        (λ e. absurd (omega (arith, ap bit e, sum_term_le L (λ j. bit (wait cards (at plan) j)) i l, good_greedy.1, pool_is L plan good_greedy.0)))
        (λ e. let some : at plan i ≢ 0 = eqb-false (at plan i) 0 e in omega arith)

    pub greedy_correct : CorrectSave m cards plan.cycles
    greedy_correct =
        let v : Inv m cards D low L (at plan) plan.T = good_greedy.0.inv in
        record {
          proper = record {
            one_each = good_greedy.0.long;
            from_one = greedy_from_one;
            card_rule = λ i j l k c e. omega (arith, v.card_rule i j l k c e, greedy_from_one i (omega arith));
          };
          pool_rule = λ i l.
              omega (
                arith,
                v.pool_rule i l (greedy_from_one i l),
                sum_mono i (λ j. bit (leb (at plan i) (at plan j))) (λ j. bit (wait cards (at plan) j || leb (at plan i) (at plan j)))
                    (λ j k. bit_or_le (wait cards (at plan) j) (leb (at plan i) (at plan j))),
              );
        }
