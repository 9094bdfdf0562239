-- What the check leaves to say of `clear`.
use Prim.Native.Nat.{◌+◌}
use lib.ListN.{length}
use native.Mathlib.Omega.{arith}
use Rattle.plan_faults.proofs.Deciding.{by_pools, up_to}
use Rattle.plan_faults.proofs.clear.Goals as goal

pub returns-then-roomy-first : goal.returns-then-roomy-first
returns-then-roomy-first c =
    let args = c.args in
    let pre = c.requires in
    let pool-first = c.if-roomy-first.true in
    by_pools args.save args.m args.cards.now args.plan.now pre.0.same_length pre.2 c.rising_frames-first.ensures
    (λ h l. absurd (omega (arith, h, pool-first)))

pub returns-then-roomy-n : goal.returns-then-roomy-n
returns-then-roomy-n c =
    let args = c.args in
    let pre = c.requires in
    let inside = c.if-roomy-n.true in
    up_to args.save args.m args.cards.now args.plan.now pre.0.same_length pre.2 (args.roomy + 1) (omega (arith, inside))
    (λ h. absurd (omega (arith, h))) c.clear_among.ensures

pub returns-then-first-n : goal.returns-then-first-n
returns-then-first-n c =
    let args = c.args in
    let pre = c.requires in
    let all-clear = rw c.if-first-n.true at c.rising_frames-first.ensures in
    by_pools args.save args.m args.cards.now args.plan.now pre.0.same_length pre.2 all-clear (λ h l. absurd (omega (arith, l)))

pub returns : goal.returns
returns c =
    let args = c.args in
    let pre = c.requires in
    up_to args.save args.m args.cards.now args.plan.now pre.0.same_length pre.2 (length args.cards.now) (omega arith)
    (λ h. omega arith) c.clear_among-2.ensures
