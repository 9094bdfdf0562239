-- What the check leaves to say of `steps::one_cycle`.
use Rattle.saver.proofs.Sorting.{sort_writes, sort_keeps}
use native.Mathlib.Omega.{arith}
use Rattle.saver.proofs.steps.one_cycle.Goals as goal
use Rattle.saver.proofs.steps.one_cycle.Goals.{then-entry, else-entry}

pub loop-i-preserved : goal.loop-i-preserved
loop-i-preserved c =
    elim c.if-entry.branch [
      | then-entry w ↦
          rw (w.written-is, w.card-is, w.position-is, w.left-is, c.from-k.ensures)
          (sort_writes c.requires c.loop-i.invariant (omega arith) (rw c.from-k.ensures at w.if-entry.true))
      | else-entry w ↦
          rw (w.written-is, w.card-is, w.position-is, w.left-is, w.from-to.ensures)
          (sort_keeps c.requires c.loop-i.invariant (omega arith) (rw c.from-k.ensures at w.if-entry.false))
    ]
