-- What the loop of `lines::plan` keeps.
use Rattle.std.proofs.Common.{◌≡◌}
use lib.Seq.{sets}
use Rattle.printing.specs.Printed.{frame_lines}
use Rattle.printing.proofs.lines.plan.Given as goal

abbrev pub invariant-loop-i : goal.invariant-loop-i
invariant-loop-i l = l.out ≡ sets l.initial.out 5 (frame_lines l.cards l.cycles l.i)
