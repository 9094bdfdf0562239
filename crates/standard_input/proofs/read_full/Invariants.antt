-- What the loop of `read_full` keeps: the bytes read are within the buffer, and with each turn fewer places are left.
use Rattle.std.proofs.Common.{length, ◌-◌, ◌≤◌}
use Rattle.standard_input.proofs.read_full.Given as goal

abbrev pub invariant-loop-done : goal.invariant-loop-done
invariant-loop-done g l = l.done ≤ length l.buffer

abbrev pub decreases-loop-done : goal.decreases-loop-done
decreases-loop-done g l = length l.initial.buffer - l.done
