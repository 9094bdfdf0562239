-- What the loop of `table::tally` keeps.
use Rattle.pool_table.proofs.Adding.{Tallying}
use Rattle.pool_table.proofs.table.tally.Given as goal

abbrev pub invariant-loop-cycle : goal.invariant-loop-cycle
invariant-loop-cycle l = Tallying l.plan l.table l.cycle-index
