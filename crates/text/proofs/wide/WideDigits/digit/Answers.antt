-- What the check leaves to say of `WideDigits::digit`.
use native.Mathlib.Omega.{arith}
use Rattle.text.proofs.WideNumbers.{wide_of}
use Rattle.text.proofs.wide.WideDigits.digit.Goals as goal

pub returns : goal.returns
returns c = rw c.from.ensures (wide_of _ c.args.self.now.of_each_byte c.args.b (omega arith))
