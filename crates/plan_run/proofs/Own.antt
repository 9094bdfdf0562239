-- A plan run on the dock of its ticket, and the read plan of a ticket.
-- Assumes nothing.
use Prim.Native.Nat.{ℕ, ◌≤◌}
use mathlib.Core.Path.{◌≡◌, refl, ap, ◌∙◌}
use mathlib.Core.List.{List}
use lib.ListN.{length}
use Rattle.std.specs.Prelude.{Some, Ok}
use borrow.Author.Tests.{eq-eqb}
use Rattle.schedule.specs.Schedule.{cycles_in, CorrectRead}
use Rattle.schedule.specs.Greedy.{lazy_prefetching}
use Rattle.schedule.specs.Dock.{empty_dock}
use Rattle.schedule.specs.Drive.{complete, peak, steps_of}
use Rattle.schedule.specs.Demand.{Drives}
use Rattle.schedule.proofs.Main.{read_correct, read_length, correct_drives, peak_same, own_peak}
use Rattle.header.specs.declared.Header.{Header}
use Rattle.ticket.specs.Ticket.{accepted, parse}
use Rattle.ticket.proofs.Main.{accepted_fits}
use Rattle.plan_run.specs.Numbers.{complete_in, needed_in, numbers_of}
use Rattle.plan_run.specs.Run.{needed_of, run_of, ran_of, Finished}

-- a plan of L cycles for an accepted ticket is run
module _ (t : List ℕ) (h : Header) (cards cycles : List ℕ) (e : parse t ≡ accepted h cards) (l : length cycles ≡ length cards) where
  pub plan_run : ran_of (parse t) cycles ≡ Ok (run_of h.pool cards cycles)
  unfolding ran_of
  plan_run = rw (e, eq-eqb (length cycles) (length cards) l)

  pub run_peak : (numbers_of (ran_of (parse t) cycles)).peak ≡ peak h.pool cards (steps_of cycles) empty_dock
  run_peak = rw plan_run

module _ (t : List ℕ) (h : Header) (cards : List ℕ) (e : parse t ≡ accepted h cards) where
  abbrev cycles : List ℕ
  cycles = (lazy_prefetching h.pool cards).cycles

  pool : 1 ≤ h.pool
  pool = (accepted_fits t h cards e).pool.0

  correct : CorrectRead h.pool cards cycles
  correct = read_correct h.pool cards pool

  drives : Drives h.pool cards cycles (cycles_in cycles)
  drives = correct_drives h.pool cards cycles correct

  own_needed : (run_of h.pool cards cycles).needed ≡ Some (record { 0 = (lazy_prefetching h.pool cards).T })
  own_needed = ap needed_of (drives.needs_T ∙ ap complete (read_length h.pool cards pool))

  pub own_finished : Finished h.pool (length cards) (lazy_prefetching h.pool cards).T (numbers_of (ran_of (parse t) cycles))
  own_finished =
      rw (plan_run t h cards cycles e correct.proper.one_each)
      (record {
        not_refused = refl;
        breaks_no_rule = drives.breaks_no_rule;
        delivers_all = (ap complete_in own_needed, drives.delivers_all);
        needs_T = ap (λ o. (needed_in o).0) own_needed;
        within_pool = rw (peak_same cards cycles h.pool correct) (own_peak h.pool cards pool);
      })
