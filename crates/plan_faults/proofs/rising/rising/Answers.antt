-- What the check leaves to say of `rising::rising`.
use Rattle.plan_faults.proofs.Rises.{rising_next}
use Rattle.plan_faults.proofs.rising.rising.Goals as goal

pub loop-i-preserved : goal.loop-i-preserved
loop-i-preserved c =
    let inv = c.loop-i.invariant in
    let pre = c.requires in
    let inside = c.loop-i-test.true in
    rising_next inv inside c.from-c.ensures pre.0 c.if-cycle-latest.false
