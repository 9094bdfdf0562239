-- What the loop of `Digits::is_line` keeps.
use Rattle.std.proofs.Common.{◌≡◌, true}
use Rattle.text.specs.Text.{digits}
use Rattle.text.proofs.read.Digits.is_line.Given as goal

abbrev pub invariant-loop-b : goal.invariant-loop-b
invariant-loop-b l = digits l.s l.at l.b-index ≡ true
