-- What the check leaves to say of `join`.
use mathlib.Core.Path.{sym, refl}
use Rattle.std.proofs.lemmas.Result.{err_from_is_err_and}
use Rattle.join.proofs.Outcome.{first_refused, second_refused}
use Rattle.join.proofs.Showing.{contract}
use Rattle.join.proofs.join.Goals as goal

pub returns-in_err-g : goal.returns-in_err-g
returns-in_err-g c =
    let p = err_from_is_err_and c.from_residual.result c.from_residual.ensures.1 in
    let read = c.in_err-g.ensures.reads.refusal _ refl in
    let clauses = contract _ _ _ _ _ (first_refused _ _ _ _ read) in
    rw (p.1, p.2) record {
      answer = clauses.0;
      buffer = clauses.1.0;
      numbers = clauses.1.1.0;
      showing = clauses.1.1.1;
    }

pub returns-in_err-h : goal.returns-in_err-h
returns-in_err-h c =
    let p = err_from_is_err_and c.from_residual-in_err-h.result c.from_residual-in_err-h.ensures.1 in
    let read = c.in_err-h.ensures.reads.refusal _ refl in
    let clauses = contract _ _ _ _ _ (second_refused _ _ _ _ _ (sym c.in_ok-g.ensures.answer) read) in
    rw (p.1, p.2) record {
      answer = clauses.0;
      buffer = clauses.1.0;
      numbers = clauses.1.1.0;
      showing = clauses.1.1.1;
    }

pub returns : goal.returns
returns c =
    let clauses = contract _ _ _ _ _ c.join_read.ensures in
    record {
      answer = clauses.0;
      buffer = clauses.1.0;
      numbers = clauses.1.1.0;
      showing = clauses.1.1.1;
    }
