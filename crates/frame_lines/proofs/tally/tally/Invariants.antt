-- What the loop of `tally::tally` keeps.
use Rattle.std.proofs.Common.{◌≡◌}
use Rattle.frame_lines.specs.Tally.{counts_up_to}
use Rattle.frame_lines.proofs.tally.tally.Given as goal

abbrev pub invariant-loop-c : goal.invariant-loop-c
invariant-loop-c l = l.count ≡ counts_up_to l.fn.card l.c-index
