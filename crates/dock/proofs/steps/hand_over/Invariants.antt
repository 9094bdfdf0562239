-- What the loops of `steps::hand_over` keep.
use Rattle.dock.proofs.HandOver.{Handing}
use Rattle.dock.proofs.steps.hand_over.Given as goal

abbrev pub invariant-loop-n : goal.invariant-loop-n
invariant-loop-n l = Handing l.from l.frames l.initial.memory l.n l.memory
