-- What the check leaves to say of `second`.
use mathlib.Core.Path.{sym, ◌∙◌}
use Rattle.refusals.specs.Numbers.{told}
use mathlib.Core.Path.{sym, ap, ◌∙◌}
use Rattle.ticket.proofs.Answers.{refused_second}
use Rattle.ticket.proofs.second.Goals as goal

pub returns-in-Err : goal.returns-in-Err
returns-in-Err c = refused_second _ _ _ (sym c.read.ensures.answer ∙ ap told c.in-Err.is)
