-- What the check leaves to say of `Digits::digit`.
use native.Mathlib.Omega.{arith}
use Rattle.text.proofs.Digits.{value_of}
use Rattle.text.proofs.read.Digits.digit.Goals as goal

pub returns : goal.returns
returns c = rw c.from.ensures (value_of _ c.args.self.now.of_each_byte c.args.b (omega arith))
