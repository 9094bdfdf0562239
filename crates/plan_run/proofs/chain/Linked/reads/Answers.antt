-- What the check leaves to say of `chain::Linked::reads`.
use Rattle.plan_run.proofs.Chains.{turn_first, turn_next}
use Rattle.plan_run.proofs.chain.Linked.reads.Goals as goal

pub loop-x-init : goal.loop-x-init
loop-x-init c = rw c.from.ensures (turn_first c.args.self.small c.args.self.chained c.requires)

pub loop-x-preserved : goal.loop-x-preserved
loop-x-preserved c =
    rw c.from-in-loop-x.ensures
    (turn_next c.args.self.small c.args.self.chained c.requires c.loop-x.invariant c.loop-x-test.true c.track-q.ensures)
