-- What the loop of `cycle::Plan::reads` keeps.
use Rattle.plan_run.specs.Cycles.{ReadsMade}
use Rattle.plan_run.proofs.cycle.Plan.reads.Given as goal

abbrev pub invariant-loop-i : goal.invariant-loop-i
invariant-loop-i l = ReadsMade l.self.cycles.now l.cycle.0 l.i l.initial.q l.initial.memory l.q l.memory
