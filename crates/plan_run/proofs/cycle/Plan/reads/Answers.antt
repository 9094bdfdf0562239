-- What the check leaves to say of `cycle::Plan::reads`.
use native.Mathlib.Omega.{arith}
use Rattle.plan_run.proofs.Cycles as cycles
use Rattle.plan_run.proofs.cycle.Plan.reads.Goals as goal
use Rattle.plan_run.proofs.cycle.Plan.reads.Goals.{then-c-cycle, else-c-cycle}

pub loop-i-preserved : goal.loop-i-preserved
loop-i-preserved c =
    elim c.if-c-cycle.branch [
      | then-c-cycle w ↦
          rw (w.q-is, w.memory-is) (cycles.reads_next c.loop-i.invariant (omega arith) w.if-c-cycle.true (omega arith) w.track-q.ensures)
      | else-c-cycle w ↦ rw (w.q-is, w.memory-is) (cycles.reads_skip c.loop-i.invariant w.if-c-cycle.false)
    ]
