-- What the loop of `Digits::number` keeps.
use Rattle.std.proofs.Common.{◌≡◌}
use Rattle.text.specs.Text.{number}
use Rattle.text.proofs.read.Digits.number.Given as goal

abbrev pub invariant-loop-b : goal.invariant-loop-b
invariant-loop-b l = l.sum ≡ number l.s l.at l.b-index
