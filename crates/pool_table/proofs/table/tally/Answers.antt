-- What the check leaves to say of `table::tally`.
use native.Mathlib.Omega.{arith}
use Rattle.pool_table.proofs.Adding.{tally_small}
use Rattle.pool_table.proofs.table.tally.Goals as goal

pub overflow_add-table : goal.overflow_add-table
overflow_add-table c = omega (arith, tally_small c.loop-cycle.invariant c.requires.1 c.loop-cycle-test.true c.from.ensures)
