-- One step more of a run: the dock, the outcome, the peak and the cycles ended.
-- Assumes nothing.
use Prim.Native.Nat.{ℕ, suc, ◌≤◌, ◌<◌, max}
use mathlib.Core.Path.{◌≡◌, refl, sym, ◌∙◌}
use mathlib.Core.Bool.{Bool, true, false, not, ◌&&◌, cond}
use mathlib.Core.List.{List, [], ◌∷◌, ◌++◌}
use native.Mathlib.Omega.{arith}
use lib.Dec.{leb}
use Rattle.std.specs.Bool.{then_some}
use Rattle.std.specs.Option.{option_or}
use Rattle.std.specs.Prelude.{Option, Some, None, Result}
use Rattle.counting.proofs.Bits.{by_cases}
use Rattle.schedule.specs.Dock.{Step, read_frame, drop_frame, end_cycle, Dock as ModelDock, empty_dock, against, perform, break_off, step, run}
use Rattle.schedule.specs.Drive.{Outcome, complete, unfinished, all_delivered, outcome, is_end, held_at_end, peak}
use Rattle.schedule.proofs.Outcome.{run_append}
use Rattle.schedule.proofs.Peak.{peak_append}
use Rattle.dock.specs.declared.Dock.{Dock}
use Rattle.dock.specs.declared.Step.{Step as CodeStep}
use Rattle.run_progress.specs.declared.Progress.{Progress}
use Rattle.dock.specs.State.{ShowsDock, step_of, most_cycles}
use Rattle.dock.specs.Drive.{dock_after, Follows}
use Rattle.run_progress.specs.Progress.{Tracks, Tracked, outcome_in}

-- the first of two outcomes that is complete
abbrev or_later : Outcome → Outcome → Outcome
or_later (complete n) later = complete n
or_later unfinished later = later

module _ (m : ℕ) (cards : List ℕ) where
  pub run_snoc : (k : List Step) (a : Step) (d : ModelDock) → run m cards (k ++ (a ∷ [])) d ≡ step m cards a (run m cards k d)
  unfolding run
  run_snoc k a d = run_append m cards k (a ∷ []) d

  -- the outcome of a dock by itself
  abbrev outcome_at : ModelDock → Outcome
  outcome_at d = cond (all_delivered cards d) (complete d.ended) unfinished

  outcome_snoc :
      (k : List Step) (a : Step) (d : ModelDock)
      → outcome m cards (k ++ (a ∷ [])) d ≡ or_later (outcome m cards k d) (outcome_at (run m cards (k ++ (a ∷ [])) d))
  unfolding run outcome
  outcome_snoc [] a d =
      elim (all_delivered cards d) as
      (λ b. cond b (complete d.ended) (outcome_at (step m cards a d)) ≡ or_later (cond b (complete d.ended) unfinished) (outcome_at (step m cards a d))) [
        | true ↦ refl
        | false ↦ refl
      ]
  outcome_snoc (b ∷ k) a d =
      elim (all_delivered cards d) as
      (λ x. cond x (complete d.ended) (outcome m cards (k ++ (a ∷ [])) (step m cards b d))
      ≡ or_later (cond x (complete d.ended) (outcome m cards k (step m cards b d))) (outcome_at (run m cards (k ++ (a ∷ [])) (step m cards b d)))) [
        | true ↦ refl
        | false ↦ outcome_snoc k a (step m cards b d)
      ]

  peak_snoc :
      (k : List Step) (a : Step) (d : ModelDock)
      → peak m cards (k ++ (a ∷ [])) d ≡ max (peak m cards k d) (held_at_end cards a (run m cards k d))
  unfolding peak
  peak_snoc k a d = omega (arith, peak_append m cards k (a ∷ []) d)

  -- a step ends one cycle or none
  module _ (d : ModelDock) where
    abbrev Counted : ModelDock → Type 0
    Counted after = (d.ended ≤ after.ended) × (after.ended ≤ suc d.ended)

    performed : (a : Step) → Counted (perform cards a d)
    performed (read_frame i) = (omega arith, omega arith)
    performed (drop_frame i) = (omega arith, omega arith)
    performed end_cycle = (omega arith, omega arith)

    pub step_counted : (a : Step) → Counted (step m cards a d)
    step_counted a =
        elim d.broken as (λ b. Counted (cond b d (cond (against m cards a d) (break_off d) (perform cards a d)))) [
          | true ↦ (omega arith, omega arith)
          | false ↦
              elim (against m cards a d) as (λ b. Counted (cond b (break_off d) (perform cards a d))) [
                | true ↦ (omega arith, omega arith)
                | false ↦ performed a
              ]
        ]

    -- and a read ends none
    pub read_ends_none : (i : ℕ) → (step m cards (read_frame i) d).ended ≡ d.ended
    read_ends_none i =
        by_cases d.broken
        (λ b. rw b)
        (λ b. by_cases (against m cards (read_frame i) d) (λ a. rw (b, a)) (λ a. rw (b, a)))

-- what is kept beside the dock x that a step has left
abbrev pub noted : Progress → Step → Dock → Progress
noted p a x =
    record {
      dock = x;
      needed = option_or p.needed (then_some (leb x.frames x.delivered) x.ended);
      peak = max p.peak (cond (is_end a && not p.dock.broken) p.dock.holding 0);
    }

or_later_noted : (o : Option ℕ) (all : Bool) (e : ℕ)
    → or_later (outcome_in o) (cond all (complete e) unfinished) ≡ outcome_in (option_or o (then_some all e))
or_later_noted (Some n) all e = refl
or_later_noted None true e = refl
or_later_noted None false e = refl

needed_le : (o : Option ℕ) (all : Bool) (e d : ℕ) → ((n : ℕ) → o ≡ Some n → n ≤ d) → e ≤ d
    → (n : ℕ) → option_or o (then_some all e) ≡ Some n → n ≤ d
needed_le (Some k) all e d h g n q = h n q
needed_le None true e d h g n q = let same : e ≡ n = cc in omega arith
needed_le None false e d h g n q = cc

module _ {p : Progress} {s : CodeStep} {before after : List ℕ} {r : Result Dock ℕ} {x : Dock}
    (x-is : x ≡ dock_after p.dock r) (drove : Follows p.dock s before r after) where
  module _ (m : ℕ) (cards : List ℕ) (steps : List Step) (v : Tracks m cards steps p before) (low : (run m cards steps empty_dock).ended < most_cycles) where
    abbrev old : ModelDock
    old = run m cards steps empty_dock

    abbrev new : ModelDock
    new = run m cards (steps ++ (step_of s ∷ [])) empty_dock

    new_shows : ShowsDock m cards new x after
    new_shows = rw (run_snoc m cards steps (step_of s) empty_dock, x-is) (drove.follows m cards old v.shows).1

    counted : (old.ended ≤ new.ended) × (new.ended ≤ suc old.ended)
    counted = rw (run_snoc m cards steps (step_of s) empty_dock) (step_counted m cards old (step_of s))

    new_ended : x.ended ≡ new.ended
    new_ended = omega (arith, new_shows.ended, counted)

    outcome_noted :
        outcome m cards (steps ++ (step_of s ∷ [])) empty_dock
        ≡ outcome_in (noted p (step_of s) x).needed
    outcome_noted =
        outcome_snoc m cards steps (step_of s) empty_dock
        ∙ rw (v.outcome_is, new_shows.frames, new_shows.delivered, new_ended)
        (or_later_noted p.needed (all_delivered cards new) new.ended)

    peak_noted : (noted p (step_of s) x).peak ≡ peak m cards (steps ++ (step_of s ∷ [])) empty_dock
    peak_noted = rw (v.peak_is, v.shows.broken, v.shows.holds) (sym (peak_snoc m cards steps (step_of s) empty_dock))

    noted_tracks : Tracks m cards (steps ++ (step_of s ∷ [])) (noted p (step_of s) x) after
    noted_tracks =
        record {
          shows = new_shows;
          outcome_is = outcome_noted;
          needed_few =
              needed_le p.needed (leb x.frames x.delivered) x.ended new.ended
              (λ n q. omega (arith, v.needed_few n q, counted)) (omega (arith, new_ended));
          peak_is = peak_noted;
        }

  pub noted_tracked : Tracked p (step_of s) before (noted p (step_of s) x) after
  noted_tracked = record { follows = noted_tracks }
