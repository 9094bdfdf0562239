-- What the loops of `searched::clear` keep.
use Prim.Native.Nat.{◌-◌}
use Rattle.plan_faults.proofs.Rises.{Stopped}
use Rattle.plan_faults.proofs.searched.clear.Given as goal

abbrev pub invariant-loop-i : goal.invariant-loop-i
invariant-loop-i l = Stopped l.cards l.plan l.latest l.i

abbrev pub decreases-loop-i : goal.decreases-loop-i
decreases-loop-i l = l.n - l.i
