-- What the check leaves to say of `chain::Linked::cycles_to`.
use mathlib.Core.Path.{◌≡◌}
use native.Mathlib.Omega.{arith}
use Rattle.plan_run.proofs.Cycles.{cycle_ends, cycles_next}
use Rattle.plan_run.proofs.chain.Linked.cycles_to.Goals as goal

pub loop-t-preserved : goal.loop-t-preserved
loop-t-preserved c =
    let ends = cycle_ends (omega arith) (omega arith) c.reads-q.ensures c.track-q.ensures in
    cycles_next c.loop-t.invariant ends

pub returns : goal.returns
returns c =
    let e : c.loop-t.t ≡ c.args.last.0 = omega arith in
    rw e at c.loop-t.invariant
