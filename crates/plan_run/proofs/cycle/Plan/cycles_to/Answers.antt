-- What the check leaves to say of `cycle::Plan::cycles_to`.
use mathlib.Core.Path.{◌≡◌}
use native.Mathlib.Omega.{arith}
use Rattle.plan_run.proofs.Cycles as cycles
use Rattle.plan_run.proofs.cycle.Plan.cycles_to.Goals as goal

pub loop-t-init : goal.loop-t-init
loop-t-init c = (rw c.next_cycle-next.ensures (cycles.next_found 0 c.args.self.cycles.now), cycles.cycles_none)

pub returns : goal.returns
returns c =
    let e : c.loop-t.t ≡ c.args.last.0 = omega arith in
    rw e at c.loop-t.invariant.1
