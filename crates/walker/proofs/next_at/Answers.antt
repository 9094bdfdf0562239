-- What the check leaves to say of `next_at`.
use mathlib.Core.Path.{sym, ◌∙◌}
use native.Mathlib.Omega.{arith}
use Rattle.walker.proofs.Bytes.{has_room, moves_on, stays}
use Rattle.walker.proofs.next_at.Goals as goal

pub overflow_add-result : goal.overflow_add-result
overflow_add-result c = let e = sym c.has_line.ensures ∙ c.if-has_line.true in omega (arith, (has_room _ _ e).0)

pub returns-then-has_line : goal.returns-then-has_line
returns-then-has_line c = let e = sym c.has_line.ensures ∙ c.if-has_line.true in moves_on _ _ e

pub returns : goal.returns
returns c = let e = sym c.has_line.ensures ∙ c.if-has_line.false in stays _ _ e
