-- What the check leaves to say of `table::add_up`.
use Prim.Native.Nat.{◌+◌, ◌<◌}
use native.Mathlib.Omega.{arith}
use lib.ListN.{length, length-take}
use Rattle.std.proofs.lemmas.List.{take-append-drop}
use Rattle.pool_table.proofs.Adding.{add_first, add_part_small, add_part_next}
use Rattle.pool_table.proofs.table.add_up.Goals as goal

pub loop-count-init : goal.loop-count-init
loop-count-init c = rw (c.from.ensures, take-append-drop (c.args.top.0 + 1) c.args.table.now) (add_first _ _ c.requires.0)

pub overflow_add-sum : goal.overflow_add-sum
overflow_add-sum c =
    let loop = c.loop-count in
    let low = c.requires.1 in
    let inside : loop.count-index < length loop.count-items = omega (arith, c.loop-count-test.true, loop.auto.count-items) in
    let long = length-take (c.from.result + 1) c.args.table.now in
    let small = add_part_small _ loop.count-items _ loop.invariant inside (omega (arith, inside, loop.auto.count-items, long, c.from.ensures, low.top_low)) in
    omega (arith, small, low.few)

pub loop-count-preserved : goal.loop-count-preserved
loop-count-preserved c =
    let loop = c.loop-count in
    let low = c.requires.1 in
    let inside : loop.count-index < length loop.count-items = omega (arith, c.loop-count-test.true, loop.auto.count-items) in
    let long = length-take (c.from.result + 1) c.args.table.now in
    add_part_next _ loop.count-items _ loop.invariant inside (omega (arith, inside, loop.auto.count-items, long, c.from.ensures, low.top_low))
