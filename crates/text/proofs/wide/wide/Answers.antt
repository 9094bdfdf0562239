-- What the check leaves to say of `wide::wide`.
use native.Mathlib.Omega.{arith}
use Rattle.text.proofs.WideNumbers.{wide_digit, wide_none}
use Rattle.text.proofs.wide.wide.Goals as goal

pub returns-then-v-lt16 : goal.returns-then-v-lt16
returns-then-v-lt16 c = rw c.from.ensures (wide_digit _ (omega arith))

pub returns-else-v-lt16 : goal.returns-else-v-lt16
returns-else-v-lt16 c = wide_none _ (omega arith)
