-- What the loop of `by_sets::enter` keeps.
use Rattle.plan_faults.specs.Searches.{Sets}
use Rattle.plan_faults.proofs.by_sets.enter.Given as goal

abbrev pub invariant-loop-i : goal.invariant-loop-i
invariant-loop-i l = Sets l.cards l.plan l.seen l.i
