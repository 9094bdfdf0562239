-- What the check leaves to say of `plans::all_roomy_save`.
use Prim.Native.Nat.{◌-◌}
use native.Mathlib.Omega.{arith}
use Rattle.pool_counts.proofs.Frames.{save_covers, not_all_roomy, all_roomy}
use Rattle.pool_counts.proofs.plans.all_roomy_save.Goals as goal

pub returns-then-m-found : goal.returns-then-m-found
returns-then-m-found c =
    not_all_roomy c.loop-i.invariant c.loop-i-test.true c.from-c.ensures (omega (arith, c.backlog-found.ensures.count, c.if-m-found.true))

pub loop-i-preserved : goal.loop-i-preserved
loop-i-preserved c =
    let place = c.type_inv.plan (c.loop-i.i - 1) in
    save_covers c.loop-i.invariant c.loop-i-test.true c.from-c.ensures (omega (arith, c.from-c.ensures, place)) c.if-c-floor.false

pub returns : goal.returns
returns c = all_roomy c.loop-i.invariant c.loop-i-test.false
