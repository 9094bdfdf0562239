-- What the loop of `rising::rising` keep.
use Rattle.plan_faults.specs.Searches.{Rising}
use Rattle.plan_faults.proofs.rising.rising.Given as goal

abbrev pub invariant-loop-i : goal.invariant-loop-i
invariant-loop-i l = Rising l.cards l.plan l.latest l.from l.i
