-- What the pass over a read plan asks of the function that tells what a frame needs.
-- Assumes nothing.
use Rattle.std.specs.Prelude.{ℕ, suc, min, ◌<◌, ◌≡◌, List, length}
use Rattle.schedule.specs.Schedule.{cycle_of}
use Rattle.pool_counts.specs.Pools.{buffers_for}

-- frame i has a later cycle than all earlier frames
abbrev pub Ahead : List ℕ → ℕ → Type 0
Ahead cycles i = (j : ℕ) → j < i → cycle_of cycles j < cycle_of cycles i

-- Of a frame ahead of all earlier ones it may be asked, and tells the buffers; any number above m where they are more than m.
pub record Needs (m : ℕ) (cycles : List ℕ) (pre : ℕ → ℕ → Type 0) (post : ℕ → ℕ → ℕ → Type 0) : Type 0 where
  pub asked : (i c : ℕ) → i < length cycles → c ≡ cycle_of cycles i → Ahead cycles i → pre i c
  pub told :
      (i c r : ℕ) → i < length cycles → c ≡ cycle_of cycles i → Ahead cycles i → post i c r → min r (suc m) ≡ min (buffers_for cycles i) (suc m)
