-- What the check leaves to say of `plans::buffers`.
use native.Mathlib.Omega.{arith}
use Rattle.pool_counts.proofs.Frames.{few_later}
use Rattle.pool_counts.proofs.plans.buffers.Goals as goal

pub overflow_add-result : goal.overflow_add-result
overflow_add-result c = omega (arith, c.backlog.ensures.count, few_later c.args.plan.now c.args.i, c.requires)
