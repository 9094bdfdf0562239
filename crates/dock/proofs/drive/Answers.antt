-- What the check leaves to say of `drive`.
use native.Mathlib.Omega.{arith}
use Rattle.dock.proofs.Driving.{memory_short, driven}
use Rattle.dock.proofs.drive.Goals as goal

pub returns-then-memory-from : goal.returns-then-memory-from
returns-then-memory-from c =
    let clauses = memory_short c.args.dock _ _ (omega (arith, c.if-memory-from.true, c.from.ensures)) in
    record {
      answer = clauses.0;
      memory = clauses.1.0;
      follows = clauses.1.1;
    }

pub returns : goal.returns
returns c =
    let clauses = driven c.args.dock _ _ (omega (arith, c.if-memory-from.false, c.from.ensures)) _ _ c.advance.ensures in
    record {
      answer = clauses.0;
      memory = clauses.1.0;
      follows = clauses.1.1;
    }
