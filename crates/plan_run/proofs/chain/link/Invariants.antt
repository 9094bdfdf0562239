-- What the loop of `chain::link` keeps.
use Rattle.plan_run.specs.Chain.{Chains}
use Rattle.plan_run.proofs.chain.link.Given as goal

abbrev pub invariant-loop-i : goal.invariant-loop-i
invariant-loop-i l = Chains l.plan l.i l.first l.after
