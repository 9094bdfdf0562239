-- What the loops of `saves::roomy` keep.
use Prim.Native.Nat.{suc, ◌-◌}
use Rattle.header.specs.Limits.{max_frames}
use Rattle.pool_table.proofs.SaveTurns.{SaveTurn}
use Rattle.pool_table.proofs.saves.roomy.Given as goal

abbrev pub invariant-loop-i : goal.invariant-loop-i
invariant-loop-i l = SaveTurn l.m l.plan l.due l.i l.full l.above

abbrev pub invariant-loop-above : goal.invariant-loop-above
invariant-loop-above l = SaveTurn l.m l.plan l.due l.i l.full l.above

abbrev pub decreases-loop-above : goal.decreases-loop-above
decreases-loop-above l = suc max_frames - l.full
