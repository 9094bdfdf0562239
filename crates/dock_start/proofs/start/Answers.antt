-- What the check leaves to say of `start`.
use Rattle.std.proofs.Common.{refl}
use Rattle.std.proofs.lemmas.Result.{err_from_is_err_and}
use Rattle.dock_start.proofs.Starting.{ticket_refused}
use Rattle.dock_start.proofs.start.Goals as goal

pub returns-in_err-h : goal.returns-in_err-h
returns-in_err-h c =
    let p = err_from_is_err_and c.from_residual.result c.from_residual.ensures.1 in
    let read = c.in_err-h.ensures.reads.refusal _ refl in
    rw (p.1, p.2, read) record {
      answer = (ticket_refused _ _).0;
      memory = (ticket_refused _ _).1;
    }

pub returns : goal.returns
returns c = let read = c.in_ok-h.ensures.reads.list _ refl in rw read c.start_list.ensures
