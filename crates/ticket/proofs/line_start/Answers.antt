-- What the check leaves to say of `line_start`.
use native.Mathlib.Omega.{arith}
use Rattle.header.specs.Heading.{edition_of}
use Rattle.header.proofs.Widths.{widest}
use Rattle.ticket.proofs.Answers.{place_small}
use Rattle.ticket.proofs.line_start.Goals as goal

pub overflow_add-result : goal.overflow_add-result
overflow_add-result c = omega (arith, c.line_digits.ensures, widest (edition_of c.args.t.now))

pub overflow_mul-result : goal.overflow_mul-result
overflow_mul-result c = let a = c.args in rw c.from.ensures (omega (arith, place_small a.t.now a.p.0 c.line_digits.ensures (omega arith)))

pub overflow_add-result-2 : goal.overflow_add-result-2
overflow_add-result-2 c = let a = c.args in rw c.from.ensures (omega (arith, place_small a.t.now a.p.0 c.line_digits.ensures (omega arith)))
