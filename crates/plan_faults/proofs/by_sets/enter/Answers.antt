-- What the check leaves to say of `by_sets::enter`.
use Rattle.plan_faults.proofs.Seen.{sets_next, clear_not_member, cycle_low}
use Rattle.plan_faults.proofs.by_sets.enter.Goals as goal

pub loop-i-preserved : goal.loop-i-preserved
loop-i-preserved c =
    let pre = c.requires in
    let inv = c.loop-i.invariant in
    let low = cycle_low pre.0 pre.1 pre.2.inside c.loop-i-test.true c.from-c.ensures in
    let none = clear_not_member pre.2 inv c.loop-i-test.true c.from-c.ensures low in
    sets_next inv c.from-c.ensures low none c.with.ensures
