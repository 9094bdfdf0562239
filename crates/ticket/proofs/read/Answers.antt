-- What the check leaves to say of `read`.
use native.Mathlib.Omega.{arith}
use Rattle.ticket.proofs.Answers.{contract}
use Rattle.ticket.proofs.read.Goals as goal

pub returns-clause-reads : goal.returns-clause-reads
returns-clause-reads c = (contract _ _ _ _ c.read_any.ensures.0 c.read_any.ensures.1 (omega arith)).1.1.1
