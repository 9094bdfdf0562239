-- What the check leaves to say of `opened`.
use mathlib.Core.Path.{refl}
use native.Mathlib.Omega.{arith}
use Rattle.refusals.proofs.Main.{some_number}
use Rattle.ticket.proofs.Answers.{stands_first}
use Rattle.walker.proofs.Bytes.{none_left, whole}
use Rattle.walker.proofs.opened.Goals as goal

pub returns-in-Some : goal.returns-in-Some
returns-in-Some c = (none_left _ c.in-Some.ensures (λ e. omega (arith, some_number c.in-Some.field-0)), stands_first _)

pub returns-in-None : goal.returns-in-None
returns-in-None c = (whole _ c.in-None.ensures, refl)
