-- What the check leaves to say of `print`.
use mathlib.Core.Path.{refl}
use Rattle.printing.specs.Printed.{text_of}
use Rattle.printing.proofs.Outcome.{contract}
use Rattle.printing.proofs.print.Goals as goal

pub returns-in-Err : goal.returns-in-Err
unfolding text_of
returns-in-Err c =
    let read = c.in-Err.ensures.reads.refusal _ refl in
    let clauses = contract _ _ _ _ (rw read c.refusal.ensures) in
    record {
      answer = clauses.0;
      buffer = clauses.1.0;
      front = clauses.1.1;
    }

pub returns-in-Ok : goal.returns-in-Ok
returns-in-Ok c =
    let read = c.in-Ok.ensures.reads.list _ refl in
    let clauses = contract _ _ _ _ (rw read c.print_list.ensures) in
    record {
      answer = clauses.0;
      buffer = clauses.1.0;
      front = clauses.1.1;
    }
