-- What the check leaves to say of `has_line`.
use native.Mathlib.Omega.{arith}
use Rattle.ticket.proofs.Answers.{end_small}
use Rattle.walker.proofs.Bytes.{past_limit, in_limit}
use Rattle.walker.proofs.has_line.Goals as goal

pub returns-then-p-ge-MAX_FRAMES : goal.returns-then-p-ge-MAX_FRAMES
returns-then-p-ge-MAX_FRAMES c = past_limit _ _ (omega arith)

pub overflow_add-result : goal.overflow_add-result
overflow_add-result c =
    omega (arith, c.line_start.ensures, c.line_digits.ensures, end_small c.args.bytes.now c.args.p.0 (omega arith))

pub returns : goal.returns
returns c = in_limit _ _ (omega arith) c.line_start.ensures c.line_digits.ensures
