-- Demand 3 leaves one T for a list and a pool, so what is true of greedy_writing's and of lazy prefetching's T is true of every plan that meets it.
-- Assumes nothing.
use Prim.Native.Nat.{ℕ, ◌≤◌}
use mathlib.Core.Path.{◌≡◌}
use mathlib.Core.List.{List}
use native.Mathlib.Omega.{arith}
use Rattle.schedule.specs.Greedy.{Plan, greedy_writing, lazy_prefetching}
use Rattle.schedule.specs.Drive.{steps_to}
use Rattle.schedule.specs.Demand.{SaveDemand, Drives, ReadDemand}
use Rattle.schedule.proofs.Fewest.{greedy_correct, greedy_length, greedy_fewest, lazy_drives, lazy_fewest}

module _ (m : ℕ) (cards cycles : List ℕ) (T : ℕ) (pool : 1 ≤ m) where
  pub save_T : SaveDemand m cards cycles T → T ≡ (greedy_writing m cards).T
  save_T d =
      omega (
        arith,
        d.takes_T,
        d.none_shorter (greedy_writing m cards).cycles (greedy_correct m cards pool),
        greedy_length m cards pool,
        greedy_fewest m cards pool cycles d.correct,
      )

  pub read_T : ReadDemand m cards cycles T → T ≡ (lazy_prefetching m cards).T
  read_T d =
      let lazy : Plan = lazy_prefetching m cards in
      let ours : Drives m cards lazy.cycles lazy.T = lazy_drives m cards pool in
      let not-fewer = d.none_fewer (steps_to lazy.cycles lazy.T) ours.delivers_all in
      let not_more = lazy_fewest m cards pool (steps_to cycles T) d.drives.delivers_all in
      let as_many : not-fewer.0 ≡ lazy.T = cc (not-fewer.1, ours.needs_T) in
      let its_own : not_more.0 ≡ T = cc (not_more.1, d.drives.needs_T) in
      omega (arith, not-fewer.2, not_more.2)
