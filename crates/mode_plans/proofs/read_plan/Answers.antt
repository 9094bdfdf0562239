-- What the check leaves to say of `read_plan`.
use Rattle.std.proofs.Common.{refl, arith}
use Rattle.counting.proofs.Firsts.{replaced_next}
use Rattle.mode_plans.proofs.Plans.{replaced_all, cycle_le, turned_round}
use Rattle.mode_plans.proofs.read_plan.Goals as goal

pub overflow_sub-cycle : goal.overflow_sub-cycle
overflow_sub-cycle c = cycle_le c.requires c.pass-turned.ensures c.loop-cycle.invariant c.loop-cycle-test.true

pub loop-cycle-preserved : goal.loop-cycle-preserved
loop-cycle-preserved c = replaced_next c.loop-cycle.invariant _ (omega arith) refl

pub returns : goal.returns
returns c = turned_round c.requires c.pass-turned.ensures (replaced_all c.loop-cycle.invariant (omega arith))
