-- What a run answers, from the ticket's answer to the last cycle of the plan.
-- Assumes nothing.
use Prim.Native.Nat.{ℕ, ◌≤◌, zero-le}
use mathlib.Core.Path.{◌≡◌, refl, sym, ap, ◌∙◌}
use mathlib.Core.Bool.{Bool, true, false, cond}
use lib.Dec.{eqb}
use mathlib.Core.List.{List, [], ◌++◌}
use native.Mathlib.Omega.{arith}
use Rattle.std.specs.Prelude.{Option, None, Some, IfSome, Result, Ok, Err}
use lib.ListN.{length, take, drop, take-append-drop}
use borrow.Author.Tests.{eq-eqb, ne_eqb}
use Rattle.schedule.specs.Schedule.{cycles_in}
use Rattle.schedule.specs.Dock.{empty_dock, run}
use Rattle.schedule.specs.Drive.{complete, unfinished, outcome, peak, steps_of, steps_to}
use Rattle.counting.proofs.Bits.{leb_none}
use Rattle.header.specs.declared.Header.{Header}
use Rattle.ticket.specs.Ticket.{accepted, refused, parse}
use Rattle.ticket.specs.Grounds.{Fits}
use Rattle.plan_run.specs.declared.Run.{Run}
use Rattle.run_progress.specs.declared.Progress.{Progress}
use Rattle.dock.proofs.Main.{empty_shows}
use Rattle.plan_run.specs.Numbers.{numbers_of}
use Rattle.plan_run.specs.Run.{run_of, ran_of}
use Rattle.run_progress.specs.Progress.{Tracks, at_start, outcome_in}
use Rattle.plan_run.specs.Cycles.{last_cycle, Reached, CyclesMade, answered}

-- a bound on the cycles needed, if they are known
some_few : (o : Option ℕ) (d : ℕ) → ((n : ℕ) → o ≡ Some n → n ≤ d) → IfSome o (λ n. n ≤ d)
some_few None d h = tt
some_few (Some n) d h = h n refl

-- what is answered after the last cycle
module _
    (m : ℕ) (cards cycles : List ℕ) {p : Progress} {memory : List ℕ} (v : Reached m cards (steps_of cycles) (cycles_in cycles) p memory)
    (low : cycles_in cycles ≤ last_cycle) where
  ended_is : p.dock.ended ≡ (run m cards (steps_of cycles) empty_dock).ended
  ended_is = omega (arith, v.tracks.shows.ended, v.ends)

  pub answer_asked : (p.dock.ended ≤ last_cycle) × IfSome p.needed (λ n. n ≤ last_cycle)
  answer_asked = (omega (arith, ended_is, v.ends), some_few p.needed last_cycle (λ n e. omega (arith, v.tracks.needed_few n e, v.ends)))

  pub answer_is : answered p ≡ run_of m cards cycles
  answer_is =
      let t = v.tracks in
      rw (t.shows.broken, t.shows.delivered, ended_is, ← t.outcome_is, t.peak_is)

-- the empty dock, with no frames or some
outcome_first : (none : Bool) → cond none (complete 0) unfinished ≡ outcome_in (cond none (Some 0) None)
outcome_first true = refl
outcome_first false = refl

needed_first : (none : Bool) (n : ℕ) → cond none (Some 0) None ≡ Some n → n ≤ 0
needed_first true n e = let zero-is : 0 ≡ n = cc in omega arith
needed_first false n e = cc

module _ (h : Header) (cards rest : List ℕ) (f : Fits h cards) where
  pub start_tracks : Tracks h.pool cards [] (at_start h.pool (length cards)) (cards ++ rest)
  unfolding run outcome peak
  start_tracks =
      record {
        shows =
            empty_shows h.pool cards rest (omega (arith, f.frames, f.few)) (λ i g. omega (arith, f.each_card i g, f.card_range.1));
        outcome_is = rw (leb_none (length cards)) (outcome_first (eqb (length cards) 0));
        needed_few = needed_first (eqb (length cards) 0);
        peak_is = refl;
      }

  pub start_reached : (cycles : List ℕ) → Reached h.pool cards (steps_to cycles 0) 0 (at_start h.pool (length cards)) (cards ++ rest)
  unfolding steps_to run
  start_reached cycles = record { tracks = start_tracks; ends = zero-le }

-- a list that is read: its cards stand at the front of the memory
module _ (h : Header) (memory cycles : List ℕ) (f : Fits h (take h.frames memory)) where
  abbrev cards : List ℕ
  cards = take h.frames memory

  pub wrong_length : (length cycles ≡ h.frames → ⊥) → Err 11 ≡ ran_of (accepted h cards) cycles
  unfolding ran_of
  wrong_length n = rw (ne_eqb (length cycles) (length cards) (λ e. n (e ∙ f.frames)))

  module _ (e : length cycles ≡ h.frames) (p : Progress) (start : p ≡ at_start h.pool h.frames) where
    reached : Reached h.pool cards (steps_to cycles 0) 0 p memory
    reached =
        rw (start ∙ ap (at_start h.pool) (sym f.frames))
        (rw (take-append-drop h.frames memory) at (start_reached h cards (drop h.frames memory) f cycles))

    module _
        (last : ℕ) (l : last ≡ cycles_in cycles) (low : last ≤ last_cycle) (q : Progress) (after : List ℕ)
        (v : CyclesMade cycles 0 last p memory q after) where
      made : Reached h.pool cards (steps_of cycles) (cycles_in cycles) q after
      made = rw l at (v.follows h.pool cards reached)

      pub plan_asked : (q.dock.ended ≤ last_cycle) × IfSome q.needed (λ n. n ≤ last_cycle)
      plan_asked = answer_asked h.pool cards cycles made (omega arith)

      pub plan_ran : (r : Run) → r ≡ answered q → Ok r ≡ ran_of (accepted h cards) cycles
      unfolding ran_of
      plan_ran r a =
          rw (eq-eqb (length cycles) (length cards) (e ∙ sym f.frames), a, answer_is h.pool cards cycles made (omega arith))

-- the two clauses of `run_plan`
pub contract : (t cycles : List ℕ) (r : Result Run ℕ) → r ≡ ran_of (parse t) cycles
    → (r ≡ ran_of (parse t) cycles) × (numbers_of r ≡ numbers_of (ran_of (parse t) cycles))
contract t cycles r e = (e, ap numbers_of e)

-- a ticket that is refused
pub ticket_refused : (k : ℕ) (cycles : List ℕ) → Err k ≡ ran_of (refused k) cycles
unfolding ran_of
ticket_refused k cycles = refl
