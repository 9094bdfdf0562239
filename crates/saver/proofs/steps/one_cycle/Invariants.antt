-- What the loops of `steps::one_cycle` keep.
use Rattle.saver.proofs.Sorting.{Sorting}
use Rattle.saver.proofs.steps.one_cycle.Given as goal

abbrev pub invariant-loop-i : goal.invariant-loop-i
invariant-loop-i l = Sorting l.saver l.written l.card l.position l.left l.i
