-- What the loop of `by_sets::clear` keep.
use Rattle.plan_faults.proofs.Seen.{Seen}
use Rattle.plan_faults.proofs.by_sets.clear.Given as goal

abbrev pub invariant-loop-i : goal.invariant-loop-i
invariant-loop-i l = Seen l.cards l.plan l.seen l.n l.i
