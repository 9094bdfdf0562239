-- What the check leaves to say of `saves::roomy`.
use Prim.Native.Nat.{◌≤◌, ◌<◌}
use native.Mathlib.Omega.{arith}
use Rattle.pool_table.proofs.SaveTurns.{full_below, due_le, save_moves, save_ends, due_small, save_next, save_all}
use Rattle.pool_table.proofs.saves.roomy.Goals as goal

pub bounds-due-full : goal.bounds-due-full
bounds-due-full c =
    let inv = c.loop-above.invariant in
    let pre = c.requires in
    omega (arith, inv.long, full_below inv pre.1 pre.2 (omega (arith, c.from-pool.ensures, c.loop-above-test.true)))

pub overflow_sub-above : goal.overflow_sub-above
overflow_sub-above c =
    let pre = c.requires in
    let many_after : c.args.m ≤ c.loop-above.above = omega (arith, c.from-pool.ensures, c.loop-above-test.true) in
    omega (arith, c.from-above.ensures, due_le c.loop-above.invariant pre.1 pre.2 many_after)

pub loop-above-smaller : goal.loop-above-smaller
loop-above-smaller c =
    let pre = c.requires in
    omega (arith, full_below c.loop-above.invariant pre.1 pre.2 (omega (arith, c.from-pool.ensures, c.loop-above-test.true)))

pub loop-above-preserved : goal.loop-above-preserved
loop-above-preserved c =
    let pre = c.requires in
    save_moves c.loop-above.invariant pre.1 pre.2 (omega (arith, c.from-pool.ensures, c.loop-above-test.true)) c.from-above.ensures

pub returns-then-c-full : goal.returns-then-c-full
returns-then-c-full c =
    let few_after : c.loop-above.above < c.args.m = omega (arith, c.from-pool.ensures, c.loop-above-test.false) in
    save_ends c.loop-above.invariant c.requires.1 few_after c.loop-i-test.true c.from-c.ensures c.if-c-full.true

pub overflow_add-due : goal.overflow_add-due
overflow_add-due c =
    let few_after : c.loop-above.above < c.args.m = omega (arith, c.from-pool.ensures, c.loop-above-test.false) in
    omega (arith, due_small c.loop-above.invariant c.requires.1 few_after c.loop-i-test.true c.from-c.ensures)

pub loop-i-preserved : goal.loop-i-preserved
loop-i-preserved c =
    let few_after : c.loop-above.above < c.args.m = omega (arith, c.from-pool.ensures, c.loop-above-test.false) in
    save_next c.loop-above.invariant c.requires.1 few_after c.loop-i-test.true c.from-c.ensures c.if-c-full.false

pub returns : goal.returns
returns c = save_all c.loop-i.invariant c.requires.1 c.loop-i-test.false
