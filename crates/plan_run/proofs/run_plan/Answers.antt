-- What the check leaves to say of `run_plan`.
use Rattle.std.proofs.Common.{refl}
use Rattle.std.proofs.lemmas.Result.{err_from_is_err_and}
use Rattle.plan_run.proofs.Runs.{ticket_refused, contract}
use Rattle.plan_run.proofs.run_plan.Goals as goal

pub returns-in_err-h : goal.returns-in_err-h
returns-in_err-h c =
    let p = err_from_is_err_and c.from_residual.result c.from_residual.ensures.1 in
    let read = c.in_err-h.ensures.reads.refusal _ refl in
    let clauses = contract _ _ _ (rw read (ticket_refused _ _)) in
    rw (p.1, p.2) record {
      answer = clauses.0;
      numbers = clauses.1;
    }
