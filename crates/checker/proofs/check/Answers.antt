-- What the check leaves to say of `check`.
use mathlib.Core.Path.{refl}
use Rattle.std.proofs.lemmas.Result.{err_from_is_err_and}
use Rattle.checker.proofs.Accepts.{contract}
use Rattle.checker.proofs.Answers.{ticket_refused}
use Rattle.checker.proofs.check.Goals as goal

pub returns-in_err-h : goal.returns-in_err-h
returns-in_err-h c =
    let p = err_from_is_err_and c.from_residual.result c.from_residual.ensures.1 in
    let read = c.in_err-h.ensures.reads.refusal _ refl in
    let clauses = contract _ _ _ (rw read (ticket_refused _ _)) in
    rw (p.1, p.2) record {
      answer = clauses.0;
      numbers = clauses.1.0;
      exact = clauses.1.1;
    }

pub returns : goal.returns
returns c =
    let read = c.in_ok-h.ensures.reads.list _ refl in
    let clauses = contract _ _ _ (rw read c.check_list.ensures) in
    record {
      answer = clauses.0;
      numbers = clauses.1.0;
      exact = clauses.1.1;
    }
