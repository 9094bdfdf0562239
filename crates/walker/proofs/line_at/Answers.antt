-- What the check leaves to say of `line_at`.
use mathlib.Core.Path.{sym, ◌∙◌}
use Prim.Native.Nat.{◌+◌, ◌<◌}
use native.Mathlib.Omega.{arith}
use lib.ListN.{length}
use Rattle.ticket.proofs.Answers.{stands}
use Rattle.walker.proofs.Bytes.{has_room, the_line, its_place, no_line, no_place}
use Rattle.walker.proofs.line_at.Goals as goal
use Rattle.walker.proofs.line_at.Goals.{After-line_digits-digits}

-- where there is a line, it ends within the bytes
inside : (c : After-line_digits-digits) → c.line_start-at.result + c.line_digits-digits.result < length c.args.bytes.now
inside c =
    let e = sym c.has_line.ensures ∙ c.if-has_line.true in
    omega (arith, c.line_start-at.ensures, c.line_digits-digits.ensures, (has_room _ _ e).1)

pub overflow_add-result : goal.overflow_add-result
overflow_add-result c = omega (arith, inside (goal.at.overflow_add-result c).After-line_digits-digits)

pub slice_bounds-result-end : goal.slice_bounds-result-end
slice_bounds-result-end c = omega (arith, inside (goal.at.slice_bounds-result-end c).After-line_digits-digits)

pub returns-then-has_line : goal.returns-then-has_line
returns-then-has_line c =
    let e = sym c.has_line.ensures ∙ c.if-has_line.true in
    (the_line _ _ e c.line_start-at.ensures c.line_digits-digits.ensures, stands _ (c.line_start-at.ensures ∙ its_place _ _ e))

pub returns : goal.returns
returns c =
    let e = sym c.has_line.ensures ∙ c.if-has_line.false in
    (no_line _ _ e, stands _ (no_place _ _ e))
