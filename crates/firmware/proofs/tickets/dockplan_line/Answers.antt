-- What the check leaves to say of `tickets::dockplan_line`.
use native.Mathlib.Omega.{arith}
use Rattle.firmware.proofs.Lines.{no_part, the_part}
use Rattle.firmware.proofs.tickets.dockplan_line.Goals as goal

pub returns-then-n-eq0 : goal.returns-then-n-eq0
returns-then-n-eq0 c =
    let clauses = no_part _ _ c.line-line.result.now c.line-line.ensures.line (omega arith) in
    record {
      part = clauses.0;
      line = clauses.1;
    }

pub returns : goal.returns
returns c =
    let clauses = the_part _ _ c.line-line.result.now c.line-line.ensures.line _ c.line_start.ensures (λ z. omega (arith, z)) in
    record {
      part = clauses.0;
      line = clauses.1;
    }
