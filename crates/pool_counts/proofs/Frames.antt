-- The count of a frame as the rule has it, and the loops over the frames of a plan.
-- Assumes nothing.
use Prim.Native.Nat.{ℕ, suc, ◌+◌, ◌-◌, ◌≤◌, ◌<◌, min, max}
use mathlib.Core.Path.{◌≡◌, refl, sym, ap, ◌∙◌}
use mathlib.Core.Bool.{Bool, true, false, false≢true, ◌&&◌}
use mathlib.Core.List.{List}
use native.Mathlib.Omega.{arith}
use native.Mathlib.Numerals.{add-one}
use native.Mathlib.Decide.{dec_lt, ℕ_discrete}
use lib.Dec.{leb, ltb}
use lib.ListN.{length, take, drop}
use borrow.Author.Tests.{le-leb, lt-leb, leb-true}
use Rattle.std.proofs.Common.{Option, Some, None, MatchOption, unwrap_or}
use Rattle.counting.specs.Count.{least}
use Rattle.counting.proofs.Sums.{how_many_le}
use Rattle.counting.proofs.Lists.{most_next, most_stays}
use Rattle.counting.proofs.Parts.{from_place}
use Rattle.counting.proofs.Least.{least_found, least_none, least_le, before_least}
use Rattle.schedule.specs.Schedule.{cycle_of, o_backlog, i_backlog}
use Rattle.pool_counts.specs.Backlog.{backlog_of, compared, count_first, count_up_to, looked_at}
use Rattle.pool_counts.specs.Pools.{roomy_of, buffers_for, peak_among}
use Rattle.pool_counts.proofs.Counting.{count_whole}
use Rattle.pool_counts.proofs.Covered.{backlog_covered, save_covered}
use Rattle.pool_counts.proofs.Ceilings.{Ceiling, ceiling_first, ceiling_up, covering, ceiling_stays}

-- a read's frames are those that the code compares
pub compared_read : (cycles : List ℕ) (i : ℕ) → take (length cycles - (i + 1)) (drop (i + 1) cycles) ≡ compared false cycles i
compared_read cycles i = rw (add-one i) (from_place (suc i) cycles)

pub rule_counted :
    (save : Bool) (m : ℕ) (cycles : List ℕ) (i : ℕ) → i < length cycles → (others : List ℕ) → others ≡ compared save cycles i → {count looked : ℕ}
    → (count ≡ min (count_first save (cycle_of cycles i) others (length others)) m)
    × (looked ≡ least (length others) (λ k. leb m (count_first save (cycle_of cycles i) others k)))
    → (count ≡ count_up_to save m cycles i) × (looked ≡ looked_at save m cycles i)
rule_counted save m cycles i l others same (count-is, looked-is) = (
  count-is ∙ ap (λ o. min (count_first save (cycle_of cycles i) o (length o)) m) same ∙ ap (λ n. min n m) (count_whole save cycles i l),
  looked-is ∙ ap (λ o. least (length o) (λ k. leb m (count_first save (cycle_of cycles i) o k))) same,
)

-- i frames have room
pub record Roomy (save : Bool) (m : ℕ) (cycles : List ℕ) (i : ℕ) : Type 0 where
  pub inside : i ≤ length cycles
  pub each : (j : ℕ) → j < i → backlog_of save cycles j < m

pub roomy_first : (save : Bool) (m : ℕ) (cycles : List ℕ) → Roomy save m cycles 0
roomy_first save m cycles = record { inside = omega arith; each = λ j l. absurd (omega arith) }

module _ {save : Bool} {m : ℕ} {cycles : List ℕ} {i : ℕ} (v : Roomy save m cycles i) where
  not_overfull : (j : ℕ) → j < i → leb m (backlog_of save cycles j) ≡ false
  not_overfull j l = lt-leb m (backlog_of save cycles j) (v.each j l)

  module _ (l : i < length cycles) where
    pub roomy_next : backlog_of save cycles i < m → Roomy save m cycles (i + 1)
    roomy_next h =
        record {
          inside = omega arith;
          each = λ j k. elim (ℕ_discrete j i) [ yes e ↦ rw e h | no e ↦ v.each j (omega arith) ];
        }

    pub roomy_ends : m ≤ backlog_of save cycles i → i ≡ roomy_of save m cycles
    roomy_ends h = sym (least_found (length cycles) i (λ j. leb m (backlog_of save cycles j)) l (le-leb m (backlog_of save cycles i) h) not_overfull)

  pub roomy_all : length cycles ≤ i → length cycles ≡ roomy_of save m cycles
  roomy_all h = sym (least_none (length cycles) (λ j. leb m (backlog_of save cycles j)) (λ j l. not_overfull j (omega arith)))

-- the first frame, if any, that has no room
pub first_overfull : (save : Bool) (m : ℕ) (cycles : List ℕ) (r : Option ℕ)
    → MatchOption r ((k : ℕ) → 0 ≤ k → k < length cycles → backlog_of save cycles k < m)
    (λ i. (0 ≤ i) × (i < length cycles) × (m ≤ backlog_of save cycles i) × ((k : ℕ) → 0 ≤ k → k < i → backlog_of save cycles k < m))
    → unwrap_or r (length cycles) ≡ roomy_of save m cycles
first_overfull save m cycles None each = roomy_all (record { inside = omega arith; each = λ k l. each k (omega arith) l }) (omega arith)
first_overfull save m cycles (Some i) (a, l, h, each) =
    roomy_ends (record { inside = omega arith; each = λ k b. each k (omega arith) b }) l h

-- a read, i frames with room, the largest cycle of which is under the ceiling, and the most buffers that one of them needs
pub record ReadTurn (m : ℕ) (cycles : List ℕ) (i ceiling peak : ℕ) : Type 0 where
  pub roomy : Roomy false m cycles i
  pub heights : Ceiling cycles i ceiling
  pub so_far : peak ≡ peak_among cycles i

pub read_first : (m : ℕ) (cycles : List ℕ) → ReadTurn m cycles 0 0 0
read_first m cycles = record { roomy = roomy_first false m cycles; heights = ceiling_first cycles; so_far = refl }

module _ {m : ℕ} {cycles : List ℕ} {i ceiling peak : ℕ} (v : ReadTurn m cycles i ceiling peak) where
  module _ (l : i < length cycles) {c : ℕ} (c-is : c ≡ cycle_of cycles i) where
    -- a frame ahead of all earlier ones, which is counted
    pub read_ahead : ceiling ≤ c → i_backlog cycles i < m → {p : ℕ} → p ≡ max peak (buffers_for cycles i) → ReadTurn m cycles (i + 1) (c + 1) p
    read_ahead h g p-is =
        record {
          roomy = roomy_next v.roomy l g;
          heights = ceiling_up v.heights c-is h;
          so_far = omega (arith, p-is, v.so_far, most_next (buffers_for cycles) i);
        }

    -- a frame that is not: an earlier one needs as many buffers, and has room
    pub read_covered : c < ceiling → ReadTurn m cycles (i + 1) ceiling peak
    read_covered h =
        let r = covering v.heights c-is h in
        let fewer : i_backlog cycles i ≤ i_backlog cycles r.0 = backlog_covered cycles i r.0 r.1 r.2 in
        record {
          roomy = roomy_next v.roomy l (omega (arith, v.roomy.each r.0 r.1, fewer));
          heights = ceiling_stays v.heights c-is h;
          so_far = v.so_far ∙ most_stays (buffers_for cycles) i r.0 r.1 (omega (arith, fewer));
        }

  pub read_all : length cycles ≤ i → (length cycles ≡ roomy_of false m cycles) × (peak ≡ peak_among cycles (length cycles))
  read_all l =
      let e : i ≡ length cycles = omega (arith, v.roomy.inside) in
      (roomy_all v.roomy l, rw (← e) v.so_far)

pub few_later : (cycles : List ℕ) (i : ℕ) → i_backlog cycles i ≤ length cycles
few_later cycles i = how_many_le (length cycles) (λ j. ltb i j && leb (cycle_of cycles j) (cycle_of cycles i))

-- what a read needs, told by its count
pub told_by_count : (m : ℕ) (cycles : List ℕ) (i : ℕ) {r : ℕ} → r ≡ min (buffers_for cycles i) (m + 1) → min r (suc m) ≡ min (buffers_for cycles i) (suc m)
told_by_count m cycles i e = omega (arith, e)

-- a save, from the last frame to the first: those from i on have room, and `floor` is their smallest cycle, `past` where there is none
pub record SaveTurn (past m : ℕ) (cycles : List ℕ) (i floor : ℕ) : Type 0 where
  pub inside : i ≤ length cycles
  pub above : (j : ℕ) → i ≤ j → j < length cycles → floor ≤ cycle_of cycles j
  pub met : floor < past → (j : ℕ) × (i ≤ j) × (j < length cycles) × (cycle_of cycles j ≡ floor)
  pub each : (j : ℕ) → i ≤ j → j < length cycles → o_backlog cycles j < m

pub save_first : (past m : ℕ) (cycles : List ℕ) → SaveTurn past m cycles (length cycles) past
save_first past m cycles =
    record {
      inside = omega arith;
      above = λ j k l. absurd (omega arith);
      met = λ l. absurd (omega arith);
      each = λ j k l. absurd (omega arith);
    }

module _ {past m : ℕ} {cycles : List ℕ} {i floor : ℕ} (v : SaveTurn past m cycles i floor) where
  module _ (l : 0 < i) {c : ℕ} (c-is : c ≡ cycle_of cycles (i - 1)) where
    -- a frame behind all later ones, which is counted
    module _ (h : c < floor) where
      pub save_behind : o_backlog cycles (i - 1) < m → SaveTurn past m cycles (i - 1) c
      save_behind g =
          record {
            inside = omega (arith, v.inside);
            above = λ j k b. elim (ℕ_discrete j (i - 1)) [ yes e ↦ rw e (omega arith) | no e ↦ omega (arith, v.above j (omega arith) b) ];
            met = λ k. (i - 1, omega arith, omega (arith, v.inside), omega arith);
            each = λ j k b. elim (ℕ_discrete j (i - 1)) [ yes e ↦ rw e g | no e ↦ v.each j (omega arith) b ];
          }

    -- a frame that is not, and has room because a later one has
    pub save_covers : c < past → floor ≤ c → SaveTurn past m cycles (i - 1) floor
    save_covers b h =
        let r = v.met (omega arith) in
        record {
          inside = omega (arith, v.inside);
          above = λ j k g. elim (ℕ_discrete j (i - 1)) [ yes e ↦ rw e (omega arith) | no e ↦ v.above j (omega arith) g ];
          met = λ k. (r.0, omega (arith, r.1), r.2, r.3);
          each = λ j k g.
              elim (ℕ_discrete j (i - 1)) [
                | yes e ↦
                    rw e
                    (omega (arith, v.each r.0 r.1 r.2, save_covered cycles (i - 1) r.0 (omega (arith, r.1)) (omega (arith, r.3))))
                | no e ↦ v.each j (omega arith) g
              ];
        }

    pub not_all_roomy : m ≤ o_backlog cycles (i - 1) → false ≡ leb (length cycles) (roomy_of true m cycles)
    not_all_roomy h =
        let full : leb m (o_backlog cycles (i - 1)) ≡ true = le-leb m (o_backlog cycles (i - 1)) h in
        let before : roomy_of true m cycles ≤ i - 1 =
        elim (dec_lt (i - 1) (roomy_of true m cycles)) [
          | yes g ↦ absurd (false≢true (sym (before_least (length cycles) (i - 1) (λ j. leb m (o_backlog cycles j)) g) ∙ full))
          | no g ↦ omega arith
        ] in
        sym (lt-leb (length cycles) (roomy_of true m cycles) (omega (arith, before, v.inside)))

  pub all_roomy : i ≤ 0 → true ≡ leb (length cycles) (roomy_of true m cycles)
  all_roomy l =
      sym (le-leb (length cycles) (roomy_of true m cycles)
      (omega (
        arith,
        least_none (length cycles) (λ j. leb m (o_backlog cycles j)) (λ j g. lt-leb m (o_backlog cycles j) (v.each j (omega arith) g)),
      )))

-- all frames have room
pub all_have_room : (m : ℕ) (cycles : List ℕ) → leb (length cycles) (roomy_of true m cycles) ≡ true → length cycles ≡ roomy_of true m cycles
all_have_room m cycles e = omega (arith, leb-true (length cycles) (roomy_of true m cycles) e, least_le (length cycles) (λ j. leb m (o_backlog cycles j)))
