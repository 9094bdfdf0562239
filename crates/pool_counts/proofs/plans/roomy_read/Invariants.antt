-- What the loop of `plans::roomy_read` keeps.
use Rattle.pool_counts.proofs.Frames.{ReadTurn}
use Rattle.pool_counts.proofs.plans.roomy_read.Given as goal

abbrev pub invariant-loop-i : goal.invariant-loop-i
invariant-loop-i g l = ReadTurn l.m l.plan l.i l.ceiling l.peak
