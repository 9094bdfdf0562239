-- What the loop of `savers::many` keeps: the record is one that a call gave.
use Rattle.saver.specs.Calls.{Given}
use Rattle.cases.proofs.savers.many.Given as goal

abbrev pub invariant-loop : goal.invariant-loop
invariant-loop l = Given l.now
