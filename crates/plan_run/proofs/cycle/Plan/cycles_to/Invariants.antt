-- What the loop of `cycle::Plan::cycles_to` keeps.
use Rattle.plan_run.specs.Cycles.{Next, CyclesMade}
use Rattle.plan_run.proofs.cycle.Plan.cycles_to.Given as goal

abbrev pub invariant-loop-t : goal.invariant-loop-t
invariant-loop-t l = Next l.self.cycles.now l.t l.next × CyclesMade l.self.cycles.now 0 l.t l.initial.q l.initial.memory l.q l.memory
