-- What a frame of a read needs that is ahead of all earlier ones, from the table.
-- Assumes nothing.
use Prim.Native.Nat.{ℕ, ◌+◌, ◌<◌}
use mathlib.Core.Path.{◌≡◌}
use mathlib.Core.List.{List}
use native.Mathlib.Omega.{arith}
use lib.ListN.{length, get_or}
use Rattle.schedule.specs.Schedule.{cycle_of}
use Rattle.pool_counts.specs.Asking.{Ahead}
use Rattle.pool_counts.specs.Pools.{buffers_for}
use Rattle.pool_table.specs.Table.{Table}
use Rattle.pool_table.proofs.Ahead.{backlog_ahead}

module _
    {cycles table : List ℕ} {top : ℕ} (t : Table cycles table top) {i c : ℕ} (l : i < length cycles) (c-is : c ≡ cycle_of cycles i) where
  pub place_inside : c < length table
  place_inside = omega (arith, t.long, t.low.top_low, t.low.up_to_top i l)

  pub entry_is : Ahead cycles i → get_or table c 0 ≡ i + buffers_for cycles i
  entry_is ahead =
      rw c-is
      (omega (
        arith,
        t.entries (cycle_of cycles i) (t.low.up_to_top i l),
        backlog_ahead cycles i l ahead,
      ))
