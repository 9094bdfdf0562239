-- What the loop of `WideDigits::number` keeps.
use Rattle.std.proofs.Common.{◌≡◌}
use Rattle.text.specs.Wide.{wide_number}
use Rattle.text.proofs.wide.WideDigits.number.Given as goal

abbrev pub invariant-loop-b : goal.invariant-loop-b
invariant-loop-b l = l.sum ≡ wide_number l.s l.at l.b-index
