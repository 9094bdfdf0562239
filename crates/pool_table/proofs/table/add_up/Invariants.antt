-- What the loop of `table::add_up` keeps.
use mathlib.Core.List.{◌++◌}
use Prim.Native.Nat.{◌+◌}
use lib.ListN.{drop}
use Rattle.pool_table.proofs.Adding.{Adding}
use Rattle.pool_table.proofs.table.add_up.Given as goal

abbrev pub invariant-loop-count : goal.invariant-loop-count
invariant-loop-count l = Adding l.plan (l.count-items ++ drop (l.fn.top.0 + 1) l.fn.table) l.count-index l.sum
