-- What the check leaves to say of `counts`.
use mathlib.Core.Path.{◌∙◌}
use Rattle.refusals.specs.Numbers.{told}
use mathlib.Core.Path.{ap, ◌∙◌}
use Rattle.ticket.proofs.Answers.{counts_refused, counts_asked, counts_given}
use Rattle.ticket.proofs.counts.Goals as goal

pub tally-requires : goal.tally-requires
tally-requires c =
    counts_asked _ _ (told c.read.result) c.read.ensures.reads _ (ap told c.in-Ok.is)

pub returns-in-Err : goal.returns-in-Err
returns-in-Err c = counts_refused _ _ (told c.read.result) c.read.ensures.reads _ (ap told c.in-Err.is)

pub returns-in-Ok : goal.returns-in-Ok
returns-in-Ok c =
    c.tally.ensures ∙ counts_given _ _ (told c.read.result) c.read.ensures.reads _ (ap told c.in-Ok.is)
