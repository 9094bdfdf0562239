-- What the check leaves to say of `place`.
use Prim.Native.Nat.{◌+◌, ◌*◌, ◌-◌, ◌%◌}
use mathlib.Core.Path.{◌≡◌}
use native.Mathlib.Omega.{arith}
use lib.ListN.{length, get_or}
use Rattle.hub.proofs.Placing.{placing_eight, all_placed}
use Rattle.hub.proofs.place.Goals as goal
use Rattle.hub.proofs.place.Goals.{then-all_of, else-all_of}

pub loop-block-preserved : goal.loop-block-preserved
loop-block-preserved c =
    let l = c.loop-block in
    let next : 8 * (l.block + 1) ≡ 8 * l.block + 8 = omega arith in
    elim c.if-all_of.branch [
      | then-all_of w ↦
          rw (w.cards-is, w.words-is, next, w.put_eight.ensures, w.from.ensures)
          (placing_eight _ _ _ c.requires.known c.requires.seen c.requires.room (8 * l.block) l.words l.cards l.invariant (omega arith)
          (get_or c.args.cameras.now (8 * l.block) 0) (c.all_of.ensures.0 w.if-all_of.true))
      | else-all_of w ↦
          rw (w.cards-is, w.words-is, next)
          (w.place_each.ensures _ _ c.requires.known c.requires.seen c.requires.room l.invariant)
    ]

pub returns : goal.returns
returns c =
    let from : 8 * c.loop-block.block ≡ length c.args.cameras.now - length c.args.cameras.now % 8 = omega arith in
    all_placed _ _ _ c.requires.known c.requires.seen c.requires.room _ _
    (c.place_each-2.ensures _ _ c.requires.known c.requires.seen c.requires.room (rw from at c.loop-block.invariant))
