-- What the loop of `chain::Linked::reads` keeps.
use Prim.Native.Nat.{◌-◌}
use lib.ListN.{length}
use Rattle.plan_run.proofs.Chains.{Turn}
use Rattle.plan_run.proofs.chain.Linked.reads.Given as goal

abbrev pub invariant-loop-x : goal.invariant-loop-x
invariant-loop-x l = Turn l.self.plan.now l.fn.cycle.0 l.x l.initial.q l.initial.memory l.q l.memory

abbrev pub decreases-loop-x : goal.decreases-loop-x
decreases-loop-x l = length l.self.plan.now - l.x
