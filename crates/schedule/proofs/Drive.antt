-- Every correct read schedule drives the dock: no rule is broken, all frames are delivered in exactly its cycles, and the pool suffices.
-- Assumes nothing.
use Prim.Native.Nat.{ℕ, zero, suc, ◌≤◌, ◌<◌, zero-le}
use mathlib.Core.Path.{◌≡◌, ap, ◌∙◌}
use mathlib.Core.Bool.{cond}
use mathlib.Core.List.{List, [], ◌∷◌, ◌++◌}
use native.Mathlib.Omega.{arith}
use native.Mathlib.Decide.{dec_lt, ℕ_discrete}
use lib.Dec.{eqb}
use lib.ListN.{length, take}
use borrow.Author.Tests.{eq-eqb, ne_eqb}
use Rattle.schedule.specs.Schedule.{cycle_of, cycles_in, CorrectRead}
use Rattle.schedule.specs.Dock.{Step, read_frame, end_cycle, Dock, empty_dock, step, run}
use Rattle.schedule.specs.Drive.{complete, outcome, reads_of, steps_to}
use Rattle.schedule.specs.Demand.{Drives}
use Rattle.counting.proofs.Lists.{le_largest, largest_met}
use Rattle.schedule.proofs.Outcome.{run_append, Throughout, throughout_none, throughout_one, throughout_append, completes}
use Rattle.schedule.proofs.Mid as mid

module _ (m : ℕ) (cards cycles : List ℕ) (ok : CorrectRead m cards cycles) where
  abbrev L : ℕ
  L = length cards

  abbrev cyc : ℕ → ℕ
  cyc = cycle_of cycles

  abbrev T : ℕ
  T = cycles_in cycles

  abbrev Mid : ℕ → ℕ → Dock → Type 0
  Mid = mid.Mid cards cycles

  -- somewhere in the first T cycles
  abbrev OnTrack : Dock → Type 0
  OnTrack d = (n : ℕ) × (k : ℕ) × (n ≤ T) × Mid n k d

  -- after some steps n cycles have ended and the next frames below k are read, and all the way the dock is on track
  abbrev Reached : ℕ → ℕ → List Step → Dock → Type 0
  Reached n k steps d = Mid n k (run m cards steps d) × Throughout m cards OnTrack steps d

  reached_read : (n k : ℕ) (steps : List Step) (d : Dock) → k < L → n ≤ T → Reached n k steps d
      → Reached n (suc k) (steps ++ cond (eqb (cyc k) (suc n)) (read_frame k ∷ []) []) d
  unfolding run
  reached_read n k steps d h b r =
      let at-k : Dock = run m cards steps d in
      elim (ℕ_discrete (cyc k) (suc n)) [
        | yes e ↦
            (let now : Mid n (suc k) (step m cards (read_frame k) at-k) = mid.mid_read cards cycles m ok n k at-k h e r.0 in
            rw (eq-eqb (cyc k) (suc n) e, run_append m cards steps (read_frame k ∷ []) d) (
              now,
              throughout_append m cards OnTrack steps (read_frame k ∷ []) d r.1
                  (throughout_one m cards OnTrack (read_frame k) at-k (n, k, b, r.0) (n, suc k, b, now)),
            ))
        | no e ↦
            rw (ne_eqb (cyc k) (suc n) e, run_append m cards steps [] d) (
              mid.mid_skip cards cycles m ok n k at-k e r.0,
              throughout_append m cards OnTrack steps [] d r.1 (throughout_none m cards OnTrack at-k (n, k, b, r.0)),
            )
      ]

  pub reached_reads : (n k : ℕ) (d : Dock) → k ≤ L → n ≤ T → Mid n 0 d → Reached n k (reads_of cycles (suc n) k) d
  unfolding run
  reached_reads n zero d h b v = (v, throughout_none m cards OnTrack d (n, 0, b, v))
  reached_reads n (suc k) d h b v = reached_read n k (reads_of cycles (suc n) k) d h b (reached_reads n k d (omega arith) b v)

  reached_end : (n : ℕ) (steps : List Step) → suc n ≤ T → Reached n 0 steps empty_dock
      → Reached (suc n) 0 (steps ++ (reads_of cycles (suc n) L ++ (end_cycle ∷ []))) empty_dock
  unfolding run
  reached_end n steps h r =
      let start : Dock = run m cards steps empty_dock in
      let reads : List Step = reads_of cycles (suc n) L in
      let filled : Dock = run m cards reads start in
      let q : Reached n L reads start = reached_reads n L start (omega arith) (omega arith) r.0 in
      let now : Mid (suc n) 0 (step m cards end_cycle filled) = mid.mid_end cards cycles m ok n filled q.0 in
      rw (run_append m cards steps (reads ++ (end_cycle ∷ [])) empty_dock, run_append m cards reads (end_cycle ∷ []) start) (
        now,
        throughout_append m cards OnTrack steps (reads ++ (end_cycle ∷ [])) empty_dock r.1
            (throughout_append m cards OnTrack reads (end_cycle ∷ []) start q.1
            (throughout_one m cards OnTrack end_cycle filled (n, L, omega arith, q.0) (suc n, 0, h, now))),
      )

  reached_cycle : (n : ℕ) → suc n ≤ T → Reached n 0 (steps_to cycles n) empty_dock → Reached (suc n) 0 (steps_to cycles (suc n)) empty_dock
  unfolding steps_to
  reached_cycle n h r = rw ok.proper.one_each (reached_end n (steps_to cycles n) h r)

  reached_none : Reached 0 0 (steps_to cycles 0) empty_dock
  unfolding run steps_to
  reached_none =
      let start : Mid 0 0 empty_dock = mid.mid_start cards cycles m ok in
      (start, throughout_none m cards OnTrack empty_dock (0, 0, zero-le, start))

  pub reached_cycles : (n : ℕ) → n ≤ T → Reached n 0 (steps_to cycles n) empty_dock
  reached_cycles zero h = reached_none
  reached_cycles (suc n) h = reached_cycle n h (reached_cycles n (omega arith))

  -- the whole run

  -- all frames are delivered after T cycles, and not before
  complete_at : (d : Dock) → OnTrack d → L ≤ d.delivered → d.ended ≡ T
  complete_at d (n, k, b, v) h =
      elim (dec_lt 0 T) [
        | yes l ↦
            (let last : (i : ℕ) × (i < length cycles) × (cyc i ≡ T) = largest_met cycles l in
            omega (arith, v.done last.0 (omega (arith, last.1, ok.proper.one_each)), last.2, v.ends))
        | no l ↦ omega (arith, v.ends)
      ]

  pub correct_drives : Drives m cards cycles T
  correct_drives =
      let steps : List Step = steps_to cycles T in
      let r : Reached T 0 steps empty_dock = reached_cycles T (omega arith) in
      let v : Mid T 0 (run m cards steps empty_dock) = r.0 in
      let all : (run m cards steps empty_dock).delivered ≡ L =
      elim (dec_lt (run m cards steps empty_dock).delivered L) [
        | yes l ↦ absurd (omega (arith, v.next l, le_largest cycles (run m cards steps empty_dock).delivered))
        | no l ↦ omega (arith, v.inside)
      ] in
      let c : (n : ℕ) × (L ≤ (run m cards (take n steps) empty_dock).delivered)
      × (outcome m cards steps empty_dock ≡ complete (run m cards (take n steps) empty_dock).ended) =
      completes m cards steps empty_dock (omega arith) in
      record {
        breaks_no_rule = v.unbroken;
        delivers_all = all;
        needs_T = c.2 ∙ ap complete (complete_at (run m cards (take c.0 steps) empty_dock) (r.1 c.0) c.1);
        within_pool = λ n.
            let s : OnTrack (run m cards (take n steps) empty_dock) = r.1 n in
            mid.mid_pool cards cycles m ok s.0 s.1 (run m cards (take n steps) empty_dock) s.3;
      }
