-- greedy_writing and lazy prefetching meet the bounds that no schedule and no list of dock steps beats.
-- Assumes nothing.
use Prim.Native.Nat.{ℕ, suc, ◌+◌, ◌≤◌, ◌<◌}
use mathlib.Core.Path.{◌≡◌, refl}
use mathlib.Core.List.{List, reverse, reverse-reverse}
use native.Mathlib.Omega.{arith}
use lib.ListN.{length, take, length-reverse}
use Rattle.counting.specs.Count.{largest}
use Rattle.counting.specs.Frames.{card_of}
use Rattle.schedule.specs.Schedule.{cycles_in, CorrectSave, CorrectRead, o_backlog, i_backlog}
use Rattle.schedule.specs.Greedy.{Plan, greedy_writing, turn_round, lazy_prefetching}
use Rattle.schedule.specs.Dock.{Step, empty_dock, run}
use Rattle.schedule.specs.Drive.{complete, outcome}
use Rattle.schedule.specs.Demand.{Drives}
use Rattle.counting.proofs.Lists.{le_largest, largest_le}
use Rattle.schedule.proofs.SaveBound.{save_bound}
use Rattle.schedule.proofs.DockBound.{dock_bound}
use Rattle.schedule.proofs.Duality.{save_to_read, read_to_save, turned_no_longer}
use Rattle.schedule.proofs.Outcome.{completes}
use Rattle.schedule.proofs.Drive.{correct_drives}
use Rattle.schedule.proofs.Process as process

-- a number above every card
abbrev above : List ℕ → ℕ
above cards = suc (largest cards)

below : (cards : List ℕ) (i : ℕ) → i < length cards → card_of cards i < above cards
below cards i l = omega (arith, le_largest cards i)

module _ (m : ℕ) (cards : List ℕ) (pos : 1 ≤ m) where
  abbrev greedy : Plan
  greedy = greedy_writing m cards

  pub greedy_correct : CorrectSave m cards greedy.cycles
  greedy_correct = process.greedy_correct m cards (above cards) (below cards) pos

  pub greedy_fewest : (others : List ℕ) → CorrectSave m cards others → greedy.T ≤ cycles_in others
  greedy_fewest others ok =
      process.greedy_under_bound m cards (above cards) (below cards) pos (cycles_in others) (save_bound m cards others (above cards) (below cards) ok)

  pub greedy_length : cycles_in greedy.cycles ≡ greedy.T
  greedy_length =
      omega (
        arith,
        greedy_fewest greedy.cycles greedy_correct,
        largest_le greedy.cycles greedy.T
            (λ i l. process.greedy_cycles_made m cards (above cards) (below cards) pos i (omega (arith, greedy_correct.proper.one_each))),
      )

-- a read of a list takes as many cycles as a save of the reversed list
pub read_is_save : (m : ℕ) (cards : List ℕ) → (lazy_prefetching m cards).T ≡ (greedy_writing m (reverse cards)).T
unfolding lazy_prefetching
read_is_save m cards = refl

module _ (m : ℕ) (cards : List ℕ) (pos : 1 ≤ m) where
  abbrev back : List ℕ
  back = reverse cards

  abbrev lazy : Plan
  lazy = lazy_prefetching m cards

  pub lazy_correct : CorrectRead m cards lazy.cycles
  unfolding lazy_prefetching
  lazy_correct =
      let written : Plan = greedy_writing m back in
      let r : CorrectRead m (reverse back) (turn_round (cycles_in written.cycles) written.cycles) =
      save_to_read m back written.cycles (greedy_correct m back pos) in
      rw (greedy_length m back pos, reverse-reverse cards) at r

  -- of correct read schedules
  pub lazy_shortest : (others : List ℕ) → CorrectRead m cards others → lazy.T ≤ cycles_in others
  lazy_shortest others ok =
      omega (
        arith,
        read_is_save m cards,
        greedy_fewest m back pos (turn_round (cycles_in others) others) (read_to_save m cards others ok),
        turned_no_longer m i_backlog o_backlog cards others ok,
      )

  pub lazy_length : cycles_in lazy.cycles ≡ lazy.T
  unfolding lazy_prefetching
  lazy_length =
      let written : Plan = greedy_writing m back in
      omega (
        arith,
        lazy_shortest lazy.cycles lazy_correct,
        rw (greedy_length m back pos) at (turned_no_longer m o_backlog i_backlog back written.cycles (greedy_correct m back pos)),
      )

  pub lazy_drives : Drives m cards lazy.cycles lazy.T
  lazy_drives = rw lazy_length at (correct_drives m cards lazy.cycles lazy_correct)

  -- of lists of dock steps
  dock_ended : (steps : List Step) → length cards ≤ (run m cards steps empty_dock).delivered → lazy.T ≤ (run m cards steps empty_dock).ended
  dock_ended steps h =
      let D : ℕ = suc (largest cards + largest back) in
      omega (
        arith,
        read_is_save m cards,
        process.greedy_under_bound m back D (λ i l. omega (arith, le_largest back i)) pos (run m cards steps empty_dock).ended
            (rw (length-reverse cards) (dock_bound m cards D (λ i l. omega (arith, le_largest cards i)) steps h)),
      )

  pub lazy_fewest : (steps : List Step) → (run m cards steps empty_dock).delivered ≡ length cards
      → (n : ℕ) × (outcome m cards steps empty_dock ≡ complete n) × (lazy.T ≤ n)
  lazy_fewest steps h =
      let r : (k : ℕ) × (length cards ≤ (run m cards (take k steps) empty_dock).delivered)
      × (outcome m cards steps empty_dock ≡ complete (run m cards (take k steps) empty_dock).ended) =
      completes m cards steps empty_dock (omega arith) in
      ((run m cards (take r.0 steps) empty_dock).ended, r.2, dock_ended (take r.0 steps) r.1)
