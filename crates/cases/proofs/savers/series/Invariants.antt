-- What the loop of `savers::series` keeps: the record is one that a call gave.
use Rattle.saver.specs.Calls.{Given}
use Rattle.cases.proofs.savers.series.Given as goal

abbrev pub invariant-loop-b : goal.invariant-loop-b
invariant-loop-b g l = Given l.now
