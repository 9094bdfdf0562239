-- What the check leaves to say of `place_each`.
use Prim.Native.Nat.{◌<◌}
use native.Mathlib.Omega.{arith}
use lib.ListN.{length}
use Rattle.hub.proofs.Placing.{placing_next}
use Rattle.hub.proofs.place_each.Goals as goal

pub loop-i-preserved : goal.loop-i-preserved
loop-i-preserved c chosen before known seen room p =
    let l = c.loop-i in
    let inside : l.i < length c.args.cameras.now = omega (arith, c.requires.listed) in
    let so_far = l.invariant chosen before known seen room p in
    let camera = c.from-camera in
    rw c.turned.ensures (placing_next chosen _ before known seen room l.i l.words l.cards so_far inside camera.result camera.ensures)
