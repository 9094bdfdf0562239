-- What the loop of `chain::Linked::cycles_to` keeps.
use Rattle.plan_run.specs.Cycles.{CyclesMade}
use Rattle.plan_run.proofs.chain.Linked.cycles_to.Given as goal

abbrev pub invariant-loop-t : goal.invariant-loop-t
invariant-loop-t l = CyclesMade l.self.plan.now 0 l.t l.initial.q l.initial.memory l.q l.memory
