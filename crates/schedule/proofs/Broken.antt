-- A peak above the pool: an end of a cycle found more than m frames held, and the list of steps is broken off there.
-- Assumes nothing.
use Prim.Native.Nat.{ℕ, ◌≤◌, ◌<◌}
use mathlib.Core.Path.{◌≡◌, refl, ap}
use mathlib.Core.Bool.{true, false, false≢true}
use mathlib.Core.List.{List, [], ◌∷◌}
use native.Mathlib.Omega.{arith}
use native.Mathlib.Decide.{dec_lt}
use lib.Dec.{ltb}
use borrow.Author.Tests.{ltb-true, lt-ltb}
use Rattle.counting.proofs.Bits.{by_cases}
use Rattle.schedule.specs.Dock.{Step, read_frame, drop_frame, end_cycle, Dock, holding, step, run}
use Rattle.schedule.specs.Drive.{held_at_end, peak, BreaksAtEnd}
use Rattle.schedule.proofs.Outcome.{run_append}
use Rattle.schedule.proofs.Peak.{none_after_break, found_at_end, peak_append}

module _ (m : ℕ) (cards : List ℕ) where
  -- an end that finds more than m held
  end_breaks : (d : Dock) → m < held_at_end cards end_cycle d → (d.broken ≡ false) × ((step m cards end_cycle d).broken ≡ true)
  end_breaks d l =
      by_cases d.broken
      (λ e. absurd (omega (arith, none_after_break cards d e)))
      (λ e. let g : m < holding cards d = omega (arith, found_at_end cards d e) in (e, rw (e, lt-ltb m (holding cards d) g)))

  breaks_first : (a : Step) (steps : List Step) (d : Dock) → m < held_at_end cards a d → BreaksAtEnd m cards (a ∷ steps) d
  unfolding run
  breaks_first (read_frame i) steps d l = absurd (omega arith)
  breaks_first (drop_frame i) steps d l = absurd (omega arith)
  breaks_first end_cycle steps d l =
      let b = end_breaks d l in
      record { before = []; after = steps; parts = refl; within_rules = b.0; broken_off = b.1 }

  pub above_breaks : (steps : List Step) (d : Dock) → m < peak m cards steps d → BreaksAtEnd m cards steps d
  unfolding run peak
  above_breaks [] d l = absurd (omega arith)
  above_breaks (a ∷ steps) d l =
      elim (dec_lt m (held_at_end cards a d)) [
        | yes g ↦ breaks_first a steps d g
        | no g ↦
            (let later = above_breaks steps (step m cards a d) (omega arith) in
            record {
              before = a ∷ later.before;
              after = later.after;
              parts = ap (◌∷◌ a) later.parts;
              within_rules = later.within_rules;
              broken_off = later.broken_off;
            })
      ]

  -- an end within the rules does not break the steps off
  found_too_many : (d : Dock) → d.broken ≡ false → (step m cards end_cycle d).broken ≡ true → m < holding cards d
  found_too_many d e b =
      by_cases (ltb m (holding cards d))
      (λ q. ltb-true m (holding cards d) q)
      (λ q. absurd (false≢true (rw (e, q) at b)))

  pub breaks_above : (steps : List Step) (d : Dock) → BreaksAtEnd m cards steps d → m < peak m cards steps d
  unfolding run peak
  breaks_above steps d v =
      let reached : Dock = run m cards v.before d in
      let many : m < holding cards reached =
      found_too_many reached v.within_rules (rw (run_append m cards v.before (end_cycle ∷ []) d) at v.broken_off) in
      let found : holding cards reached ≤ peak m cards (end_cycle ∷ v.after) reached = rw v.within_rules (omega arith) in
      rw v.parts (omega (arith, peak_append m cards v.before (end_cycle ∷ v.after) d))
