-- What the check leaves to say of `gather`.
use native.Mathlib.Omega.{arith}
use Rattle.std.proofs.lemmas.Result.{err_from_is_err_and}
use Rattle.refusals.proofs.Main.{some_number}
use Rattle.hub.proofs.Calls.{call_refused, call_gathered, contract}
use Rattle.hub.proofs.Refusals.{no_ground}
use Rattle.hub.proofs.gather.Goals as goal

pub returns-in_err-refused : goal.returns-in_err-refused
returns-in_err-refused c =
    let p = err_from_is_err_and c.from_residual.result c.from_residual.ensures.1 in
    let e = c.in_err-refused.field-0.0 in
    let clauses = contract _ _ _ _ _ (call_refused _ _ _ _ c.in_err-refused.ensures (λ z. omega (arith, some_number e))) in
    rw (p.1, p.2) record {
      answer = clauses.0;
      buffer = clauses.1.0;
      numbers = clauses.1.1.0;
      fullest = clauses.1.1.1;
    }

pub place-requires : goal.place-requires
place-requires c =
    no_ground _ _ _ (c.in_ok-refused.ensures)

pub overflow_cast-result : goal.overflow_cast-result
overflow_cast-result c =
    let fits = no_ground _ _ _ (c.in_ok-refused.ensures) in
    omega (arith, fits.few)

pub returns : goal.returns
returns c =
    let fits = no_ground _ _ _ (c.in_ok-refused.ensures) in
    let clauses = contract _ _ _ _ _ (call_gathered _ _ _ fits _ c.place.ensures) in
    record {
      answer = clauses.0;
      buffer = clauses.1.0;
      numbers = clauses.1.1.0;
      fullest = clauses.1.1.1;
    }
