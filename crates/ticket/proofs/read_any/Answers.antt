-- What the check leaves to say of `read_any`.
use mathlib.Core.Path.{sym, ap}
use Rattle.std.proofs.lemmas.Result.{err_from_is_err_and}
use Rattle.ticket.specs.Ticket.{answer_in}
use Rattle.ticket.proofs.Memory.{header_into}
use Rattle.ticket.proofs.Reader.{header_refused}
use Rattle.ticket.proofs.read_any.Goals as goal

pub returns-in_err-h : goal.returns-in_err-h
returns-in_err-h c =
    let p = err_from_is_err_and c.from_residual.result c.from_residual.ensures.1 in
    let refused = sym c.in_err-h.ensures.answer in
    rw (p.1, p.2) (sym (ap answer_in (header_refused _ _ refused)), header_into _ _ _ refused)
