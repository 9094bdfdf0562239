-- What the check leaves to say of `line_refusal`.
use native.Mathlib.Omega.{arith}
use Rattle.refusals.specs.Numbers.{told}
use mathlib.Core.Path.{ap}
use Rattle.ticket.proofs.Answers.{below, not_below}
use Rattle.ticket.proofs.line_refusal.Goals as goal

pub returns-then-p-h : goal.returns-then-p-h
returns-then-p-h c = below _ (told c.read.result) c.read.ensures.answer _ _ (ap told c.in-Ok.is) (omega arith)

pub returns-else-p-h : goal.returns-else-p-h
returns-else-p-h c = not_below _ (told c.read.result) c.read.ensures.answer _ _ (ap told c.in-Ok.is) (omega arith)
