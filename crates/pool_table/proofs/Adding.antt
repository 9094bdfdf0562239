-- The table of how many frames have a cycle up to each cycle: the frames of each cycle are counted, then added up.
-- Assumes nothing.
use Prim.Native.Nat.{ℕ, suc, ◌+◌, ◌≤◌, ◌<◌}
use mathlib.Core.Path.{◌≡◌, sym, ap, ◌∙◌}
use mathlib.Core.Bool.{true, false}
use mathlib.Core.List.{List, ◌++◌}
use native.Mathlib.Omega.{arith}
use native.Mathlib.Numerals.{add-one}
use native.Mathlib.Decide.{ℕ_discrete}
use lib.Dec.{eqb, leb, ltb}
use lib.ListN.{length, get_or, set, replicate, length-set, length-replicate, get_or-append}
use lib.Seq.{get_or-set_same, get_or-set_other}
use Rattle.std.proofs.lemmas.List.{set-append_left}
use borrow.Author.Tests.{eq-eqb, ne_eqb, le-ltb}
use Rattle.counting.specs.Count.{bit, how_many}
use Rattle.schedule.specs.Schedule.{cycle_of}
use Rattle.counting.proofs.Sums.{sum_cong, sum_add, sum_zero, how_many_le}
use Rattle.counting.proofs.Bits.{up_to_splits, before_next}
use Rattle.counting.proofs.Lists.{get_or_zeros}
use Rattle.header.specs.Limits.{max_frames}
use Rattle.pool_table.specs.Table.{cycles_up_to, table_length, Zeroed, Low, Tallied, Table}

pub zeroed : Zeroed (replicate table_length 0)
zeroed = record { long = length-replicate {A = ℕ} table_length 0; zeros = get_or_zeros table_length }

-- a plan up to `top` is one up to the limit
pub within_limit : (cycles : List ℕ) (top : ℕ) → Low cycles top → Low cycles max_frames
within_limit cycles top v = record { few = v.few; top_low = omega arith; up_to_top = λ i l. omega (arith, v.up_to_top i l, v.top_low) }

-- how many of the first i frames have cycle c
abbrev tally_of : List ℕ → ℕ → ℕ → ℕ
tally_of cycles i c = how_many i (λ j. eqb (cycle_of cycles j) c)

-- i frames are counted
pub record Tallying (cycles table : List ℕ) (i : ℕ) : Type 0 where
  pub inside : i ≤ length cycles
  pub long : length table ≡ table_length
  pub counts : (c : ℕ) → c < table_length → get_or table c 0 ≡ tally_of cycles i c

pub tally_first : (cycles table : List ℕ) → Zeroed table → Tallying cycles table 0
tally_first cycles table z = record { inside = omega arith; long = z.long; counts = λ c l. z.zeros c }

module _ {cycles table : List ℕ} {i : ℕ} (v : Tallying cycles table i) where
  module _ (low : Low cycles max_frames) (l : i < length cycles) {p : ℕ} (p-is : p ≡ cycle_of cycles i) where
    pub tally_place : p < table_length
    tally_place = omega (arith, low.up_to_top i l)

    pub tally_small : get_or table p 0 < max_frames
    tally_small = omega (arith, v.counts p tally_place, how_many_le i (λ j. eqb (cycle_of cycles j) p), low.few)

    entry_next : (c : ℕ) → c < table_length → get_or (set table p (get_or table p 0 + 1)) c 0 ≡ tally_of cycles (suc i) c
    entry_next c h =
        elim (ℕ_discrete c p) [
          | yes e ↦
              (let one : eqb (cycle_of cycles i) p ≡ true = eq-eqb (cycle_of cycles i) p (omega arith) in
              rw e
              (get_or-set_same table p (get_or table p 0 + 1) 0 (omega (arith, v.long, tally_place))
              ∙ omega (arith, v.counts p tally_place, ap bit one)))
          | no e ↦
              (let none : eqb (cycle_of cycles i) c ≡ false = ne_eqb (cycle_of cycles i) c (λ q. e (omega arith)) in
              get_or-set_other table p c (get_or table p 0 + 1) 0 e ∙ omega (arith, v.counts c h, ap bit none))
        ]

    pub tally_next : Tallying cycles (set table p (get_or table p 0 + 1)) (i + 1)
    tally_next =
        record {
          inside = omega arith;
          long = length-set table p (get_or table p 0 + 1) ∙ v.long;
          counts = λ c h. rw (add-one i) (entry_next c h);
        }

  pub tallied : length cycles ≤ i → Tallied cycles table
  tallied l = let e : i ≡ length cycles = omega (arith, v.inside) in record { long = v.long; counts = rw e at v.counts }

-- how many frames have a cycle before c
abbrev running_sum : List ℕ → ℕ → ℕ
running_sum cycles c = how_many (length cycles) (λ j. ltb (cycle_of cycles j) c)

sum_next : (cycles : List ℕ) (c : ℕ) → running_sum cycles c + tally_of cycles (length cycles) c ≡ cycles_up_to cycles c
sum_next cycles c =
    sym (sum_add (length cycles) (λ j. bit (ltb (cycle_of cycles j) c)) (λ j. bit (eqb (cycle_of cycles j) c)))
    ∙ sum_cong (length cycles) (λ j. bit (ltb (cycle_of cycles j) c) + bit (eqb (cycle_of cycles j) c)) (λ j. bit (leb (cycle_of cycles j) c))
    (λ j l. sym (up_to_splits (cycle_of cycles j) c))

sum_shift : (cycles : List ℕ) (c : ℕ) → running_sum cycles (suc c) ≡ cycles_up_to cycles c
sum_shift cycles c =
    sum_cong (length cycles) (λ j. bit (ltb (cycle_of cycles j) (suc c))) (λ j. bit (leb (cycle_of cycles j) c)) (λ j l. before_next (cycle_of cycles j) c)

-- the places below c are added up
pub record Adding (cycles table : List ℕ) (c sum : ℕ) : Type 0 where
  pub long : length table ≡ table_length
  pub done : (k : ℕ) → k < c → get_or table k 0 ≡ cycles_up_to cycles k
  pub rest : (k : ℕ) → c ≤ k → k < table_length → get_or table k 0 ≡ tally_of cycles (length cycles) k
  pub so_far : sum ≡ running_sum cycles c

pub add_first : (cycles table : List ℕ) → Tallied cycles table → Adding cycles table 0 0
add_first cycles table t =
    record {
      long = t.long;
      done = λ k l. absurd (omega arith);
      rest = λ k h l. t.counts k l;
      so_far =
          sym (sum_cong (length cycles) (λ j. bit (ltb (cycle_of cycles j) 0))
          (λ j. 0) (λ j l. ap bit (le-ltb (cycle_of cycles j) 0 (omega arith)))
          ∙ sum_zero (length cycles));
    }

module _ {cycles table : List ℕ} {c sum : ℕ} (v : Adding cycles table c sum) where
  module _ (l : c < table_length) where
    pub add_is : sum + get_or table c 0 ≡ cycles_up_to cycles c
    add_is = omega (arith, v.so_far, v.rest c (omega arith) l, sum_next cycles c)

    pub add_small : sum + get_or table c 0 ≤ length cycles
    add_small = omega (arith, add_is, how_many_le (length cycles) (λ j. leb (cycle_of cycles j) c))

    pub add_next : Adding cycles (set table c (sum + get_or table c 0)) (c + 1) (sum + get_or table c 0)
    add_next =
        record {
          long = length-set table c (sum + get_or table c 0) ∙ v.long;
          done = λ k h.
              elim (ℕ_discrete k c) [
                | yes e ↦ rw e (get_or-set_same table c (sum + get_or table c 0) 0 (omega (arith, v.long)) ∙ add_is)
                | no e ↦ get_or-set_other table c k (sum + get_or table c 0) 0 e ∙ v.done k (omega arith)
              ];
          rest = λ k h g. get_or-set_other table c k (sum + get_or table c 0) 0 (λ e. omega arith) ∙ v.rest k (omega arith) g;
          so_far = rw (add-one c) (add_is ∙ sym (sum_shift cycles c));
        }

  pub added : (top : ℕ) → Low cycles top → suc top ≤ c → Table cycles table top
  added top low l = record { long = v.long; low = low; entries = λ k h. v.done k (omega arith) }

-- the same, where the places that are added up are a part of the table
module _ (cycles part rest : List ℕ) {c sum : ℕ} (v : Adding cycles (part ++ rest) c sum) (h : c < length part) (l : c < table_length) where
  here : get_or (part ++ rest) c 0 ≡ get_or part c 0
  here = get_or-append part rest 0 c h

  pub add_part_small : sum + get_or part c 0 ≤ length cycles
  add_part_small = omega (arith, add_small v l, here)

  pub add_part_next : Adding cycles (set part c (sum + get_or part c 0) ++ rest) (c + 1) (sum + get_or part c 0)
  add_part_next = rw (← set-append_left part rest c (sum + get_or part c 0) h, ← here) (add_next v l)
