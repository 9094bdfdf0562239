-- What the check leaves to say of `reads::roomy`.
use Prim.Native.Nat.{◌≤◌, ◌<◌}
use native.Mathlib.Omega.{arith}
use lib.ListN.{length, get_or}
use Rattle.std.proofs.Common.{rules}
use Rattle.pool_table.proofs.ReadTurns.{place_inside, entry_is}
use Rattle.pool_table.proofs.reads.roomy.Goals as goal

pub roomy_read-requires : goal.roomy_read-requires
roomy_read-requires c =
    record {
      asked = λ i p inside cycle ahead.
          let table = c.args.table.now in
          let small : i < 65536 = omega (arith, inside, c.requires.low.few) in
          let place : p < length table = place_inside c.requires inside cycle in
          let later : i ≤ get_or table p 0 = omega (arith, entry_is c.requires inside cycle ahead) in
          search rules;
      told = λ i p r inside cycle ahead k. let entry = entry_is c.requires inside cycle ahead in search rules;
    }
