-- What the check leaves to say of `cycle::Plan::next_after`.
use Rattle.plan_run.proofs.Cycles.{next_found}
use Rattle.plan_run.proofs.cycle.Plan.next_after.Goals as goal

pub returns-then-eq : goal.returns-then-eq
returns-then-eq c = rw c.next_cycle.ensures (next_found c.args.t.0 c.args.self.cycles.now)
