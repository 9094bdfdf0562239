-- What the check leaves to say of `parse`.
use Rattle.refusals.specs.Numbers.{told}
use mathlib.Core.Path.{ap}
use Rattle.ticket.proofs.Answers.{parsed_accepted}
use Rattle.ticket.proofs.parse.Goals as goal

pub returns-clause-answer : goal.returns-clause-answer
returns-clause-answer c = (parsed_accepted _ (told c.read.result) c.read.ensures.answer _ _ (ap told c.in_ok-header.was) c.read.ensures.memory).0
