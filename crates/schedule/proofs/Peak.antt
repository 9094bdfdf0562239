-- The peak of a plan's run. Right after the reads of a cycle the frames held are the first frame not delivered, if it is read, and frames of its
-- backlog; and in the cycle that reads a frame, that frame and its whole backlog are held. So the peak is the largest backlog and one; and on a
-- dock with a buffer for every frame it is at most m exactly where the plan is correct for a pool of m.
-- Assumes nothing.
use Prim.Native.Nat.{ℕ, zero, suc, ◌+◌, ◌≤◌, ◌<◌, max}
use mathlib.Core.Path.{◌≡◌, refl, sym, ap, ◌∙◌}
use mathlib.Core.Bool.{Bool, true, false, not, ◌&&◌, cond}
use mathlib.Core.List.{List, [], ◌∷◌, ◌++◌}
use native.Mathlib.Omega.{arith}
use native.Mathlib.Decide.{dec_le}
use lib.Dec.{eqb, leb, ltb}
use lib.ListN.{length, get_or}
use borrow.Author.Tests.{eqb-true, leb-true, ltb-true, le-ltb}
use Rattle.counting.specs.Count.{bit, tabulate, largest}
use Rattle.counting.proofs.Bits.{by_cases, and_left, and_right, bit_mono}
use Rattle.counting.proofs.Sums.{sum_mono, sum_add, equal_one, one_missing}
use Rattle.counting.proofs.Lists.{length_tabulate, get_or_tabulate, le_largest, largest_le}
use Rattle.schedule.specs.Schedule.{cycle_of, cycles_in, i_backlog, Proper, CorrectRead}
use Rattle.schedule.specs.Dock.{Step, read_frame, end_cycle, Dock, empty_dock, holding, step, run}
use Rattle.schedule.specs.Drive.{reads_of, steps_to, steps_of, held_at_end, peak, buffers_needed}
use Rattle.schedule.proofs.Mid as mid
use Rattle.schedule.proofs.Drive as drive

-- what an end of a cycle finds held counts, and after the break nothing
module _ (cards : List ℕ) (d : Dock) where
  pub none_after_break : d.broken ≡ true → held_at_end cards end_cycle d ≡ 0
  none_after_break e = omega (arith, ap (λ b. cond (not b) (holding cards d) 0) e)

  pub found_at_end : d.broken ≡ false → held_at_end cards end_cycle d ≡ holding cards d
  found_at_end e = omega (arith, ap (λ b. cond (not b) (holding cards d) 0) e)

module _ (m : ℕ) (cards : List ℕ) where
  -- the peak step by step

  pub peak_append : (k l : List Step) (d : Dock) → peak m cards (k ++ l) d ≡ max (peak m cards k d) (peak m cards l (run m cards k d))
  unfolding run peak
  peak_append [] l d = omega arith
  peak_append (a ∷ k) l d = omega (arith, peak_append k l (step m cards a d))

  peak_none : (d : Dock) → peak m cards [] d ≡ 0
  unfolding peak
  peak_none d = refl

  peak_read : (i : ℕ) (d : Dock) → peak m cards (read_frame i ∷ []) d ≡ 0
  unfolding peak
  peak_read i d = omega arith

  peak_reads : (cycles : List ℕ) (c n : ℕ) (d : Dock) → peak m cards (reads_of cycles c n) d ≡ 0
  peak_reads cycles c zero d = peak_none d
  peak_reads cycles c (suc n) d =
      let at_n : Dock = run m cards (reads_of cycles c n) d in
      let last : List Step = cond (eqb (cycle_of cycles n) c) (read_frame n ∷ []) [] in
      let z : peak m cards last at_n ≡ 0 =
      by_cases (eqb (cycle_of cycles n) c) (λ e. rw e (peak_read n at_n)) (λ e. rw e (peak_none at_n)) in
      omega (arith, peak_append (reads_of cycles c n) last d, peak_reads cycles c n d)

  peak_end : (d : Dock) → d.broken ≡ false → peak m cards (end_cycle ∷ []) d ≡ holding cards d
  unfolding peak
  peak_end d e = omega (arith, found_at_end cards d e)

-- a plan that is correct for the pool of the dock
module _ (m : ℕ) (cards cycles : List ℕ) (ok : CorrectRead m cards cycles) where
  abbrev L : ℕ
  L = length cards

  abbrev cyc : ℕ → ℕ
  cyc = cycle_of cycles

  abbrev Mid : ℕ → Dock → Type 0
  Mid n d = mid.Mid cards cycles n L d

  -- the peak of the first n cycles
  abbrev peak_to : ℕ → ℕ
  peak_to n = peak m cards (steps_to cycles n) empty_dock

  -- frame j is in the backlog of frame i
  abbrev in_backlog : ℕ → ℕ → Bool
  in_backlog i j = ltb i j && leb (cyc j) (cyc i)

  backlog_says : (i j : ℕ) → in_backlog i j ≡ true → (i < j) × (cyc j ≤ cyc i)
  backlog_says i j e = (ltb-true i j (and_left (ltb i j) (leb (cyc j) (cyc i)) e), leb-true (cyc j) (cyc i) (and_right (ltb i j) (leb (cyc j) (cyc i)) e))

  -- after the reads of cycle n + 1 a frame of that cycle and its backlog are held

  held_counts : (n : ℕ) (d : Dock) → Mid n d → (i : ℕ) → d.delivered ≤ i → cyc i ≡ suc n → (j : ℕ) → j < L
      → bit (eqb i j) + bit (in_backlog i j) ≤ bit (d.held j)
  held_counts n d v i h e j g =
      by_cases (eqb i j)
      (λ q.
      let same : i ≡ j = eqb-true i j q in
      let none : j ≤ i = omega arith in
      rw (mid.all_held cards cycles n d v j g (omega arith) (omega (arith, ap cyc same)), q, le-ltb i j none) (omega arith))
      (λ q.
      rw q
      (omega (
        arith,
        bit_mono (in_backlog i j) (d.held j)
            (λ x. mid.all_held cards cycles n d v j g (omega (arith, backlog_says i j x)) (omega (arith, backlog_says i j x))),
      )))

  held_reaches : (n : ℕ) (d : Dock) → Mid n d → (i : ℕ) → i < L → cyc i ≡ suc n → i_backlog cycles i < holding cards d
  held_reaches n d v i l e =
      let h : d.delivered ≤ i = elim (dec_le d.delivered i) [ yes g ↦ g | no g ↦ absurd (omega (arith, v.done i (omega arith))) ] in
      rw ok.proper.one_each
      (omega (
        arith,
        equal_one L i l,
        sum_add L (λ j. bit (eqb i j)) (λ j. bit (in_backlog i j)),
        sum_mono L (λ j. bit (eqb i j) + bit (in_backlog i j)) (λ j. bit (d.held j)) (held_counts n d v i h e),
      ))

  -- one cycle more

  peak_cycle : (n : ℕ) → suc n ≤ cycles_in cycles → (d : Dock) × Mid n d × (peak_to (suc n) ≡ max (peak_to n) (holding cards d))
  unfolding steps_to
  peak_cycle n h =
      let start : Dock = run m cards (steps_to cycles n) empty_dock in
      let reads : List Step = reads_of cycles (suc n) L in
      let filled : Dock = run m cards reads start in
      let v : Mid n filled =
      (drive.reached_reads m cards cycles ok n L start (omega arith) (omega arith) (drive.reached_cycles m cards cycles ok n (omega arith)).0).0 in
      rw ok.proper.one_each (
        filled,
        v,
        omega (
          arith,
          peak_append m cards (steps_to cycles n) (reads ++ (end_cycle ∷ [])) empty_dock,
          peak_append m cards reads (end_cycle ∷ []) start,
          peak_reads m cards cycles (suc n) L start,
          peak_end m cards filled v.unbroken,
        ),
      )

  -- the cycles one after the other

  peak_within : (n : ℕ) → n ≤ cycles_in cycles → (b : ℕ) → ((i : ℕ) → i < L → i_backlog cycles i < b) → peak_to n ≤ b
  unfolding steps_to
  peak_within zero h b top = omega (arith, peak_none m cards empty_dock)
  peak_within (suc n) h b top =
      let c : (d : Dock) × Mid n d × (peak_to (suc n) ≡ max (peak_to n) (holding cards d)) = peak_cycle n h in
      omega (
        arith,
        c.2,
        peak_within n (omega arith) b top,
        mid.held_within cards cycles ok.proper.one_each n L c.0 c.1 b top,
      )

  peak_reaches : (n : ℕ) → n ≤ cycles_in cycles → (i : ℕ) → i < L → cyc i ≤ n → i_backlog cycles i < peak_to n
  peak_reaches zero h i l e = absurd (omega (arith, ok.proper.from_one i l))
  peak_reaches (suc n) h i l e =
      let c : (d : Dock) × Mid n d × (peak_to (suc n) ≡ max (peak_to n) (holding cards d)) = peak_cycle n h in
      elim (dec_le (cyc i) n) [
        | yes g ↦ omega (arith, c.2, peak_reaches n (omega arith) i l g)
        | no g ↦ omega (arith, c.2, held_reaches n c.0 c.1 i l (omega arith))
      ]

  -- the whole run

  peak_above : (i : ℕ) → i < L → i_backlog cycles i < peak m cards (steps_of cycles) empty_dock
  peak_above i l = peak_reaches (cycles_in cycles) (omega arith) i l (le_largest cycles i)

  peak_below : (b : ℕ) → ((i : ℕ) → i < L → i_backlog cycles i < b) → peak m cards (steps_of cycles) empty_dock ≤ b
  peak_below = peak_within (cycles_in cycles) (omega arith)

  pub peak_closed : peak m cards (steps_of cycles) empty_dock ≡ largest (tabulate (length cycles) (λ i. suc (i_backlog cycles i)))
  peak_closed =
      let each : List ℕ = tabulate (length cycles) (λ i. suc (i_backlog cycles i)) in
      let value : (i : ℕ) → i < L → get_or each i 0 ≡ suc (i_backlog cycles i) =
      λ i l. get_or_tabulate (length cycles) (λ i. suc (i_backlog cycles i)) i 0 (omega (arith, ok.proper.one_each)) in
      omega (
        arith,
        peak_below (largest each) (λ i l. omega (arith, le_largest each i, value i l)),
        largest_le each (peak m cards (steps_of cycles) empty_dock)
            (λ i l.
            let k : i < L = omega (arith, ok.proper.one_each, length_tabulate (length cycles) (λ i. suc (i_backlog cycles i))) in
            omega (arith, value i k, peak_above i k)),
      )

-- a frame is not in its own backlog, so a buffer for every frame is a pool that suffices
module _ (cards cycles : List ℕ) (ok : Proper cards cycles) where
  every_frame_fits : CorrectRead (length cards) cards cycles
  every_frame_fits =
      record {
        proper = ok;
        pool_rule = λ i l.
            rw ok.one_each
            (one_missing (length cards) i (λ j. ltb i j && leb (cycle_of cycles j) (cycle_of cycles i)) l (rw (le-ltb i i (omega arith))));
      }

  pub needed_closed : buffers_needed cards cycles ≡ largest (tabulate (length cycles) (λ i. suc (i_backlog cycles i)))
  needed_closed = peak_closed (length cards) cards cycles every_frame_fits

  pub correct_within : (m : ℕ) → CorrectRead m cards cycles → buffers_needed cards cycles ≤ m
  correct_within m c = peak_below (length cards) cards cycles every_frame_fits m c.pool_rule

  pub within_correct : (m : ℕ) → buffers_needed cards cycles ≤ m → CorrectRead m cards cycles
  within_correct m h =
      record { proper = ok; pool_rule = λ i l. omega (arith, peak_above (length cards) cards cycles every_frame_fits i l) }

-- the run on the pool's own dock has the same peak
pub same_peak :
    (m : ℕ) (cards cycles : List ℕ) → CorrectRead m cards cycles → peak m cards (steps_of cycles) empty_dock ≡ buffers_needed cards cycles
same_peak m cards cycles ok = peak_closed m cards cycles ok ∙ sym (needed_closed cards cycles ok.proper)
