-- What the check leaves to say of `line`.
use mathlib.Core.Path.{◌≡◌, ◌∙◌}
use Prim.Native.Nat.{◌+◌, ◌<◌}
use native.Mathlib.Omega.{arith}
use lib.ListN.{length}
use Rattle.ticket.proofs.Answers.{stands, no_line, no_place, line_fits, the_line, its_place}
use Rattle.ticket.proofs.line.Goals as goal
use Rattle.refusals.proofs.Main.{none_is_0, some_not_0}
use Rattle.ticket.specs.Ticket.{parse, line_refusal_of}
use Rattle.ticket.proofs.line.Goals.{After-line_digits-digits}

-- a line without a refusal
accepted-line : (c : After-line_digits-digits) → 0 ≡ line_refusal_of (parse c.args.t.now) c.args.p.0
accepted-line c = none_is_0 c.line_refusal.result c.if-is_some.ensures ∙ c.line_refusal.ensures

-- ends within the ticket
inside : (c : After-line_digits-digits) → c.line_start-at.result + c.line_digits-digits.result < length c.args.t.now
inside c =
    omega (arith, c.line_start-at.ensures, c.line_digits-digits.ensures, line_fits _ _ (accepted-line c))

pub returns-then-is_some-clause-line : goal.returns-then-is_some-clause-line
returns-then-is_some-clause-line c = no_line _ _ c.line_refusal.ensures (some_not_0 c.line_refusal.result c.if-is_some.ensures)

pub returns-then-is_some-clause-stands : goal.returns-then-is_some-clause-stands
returns-then-is_some-clause-stands c =
    stands _ (no_place _ _ c.line_refusal.ensures (some_not_0 c.line_refusal.result c.if-is_some.ensures))

pub overflow_add-result : goal.overflow_add-result
overflow_add-result c = omega (arith, inside (goal.at.overflow_add-result c).After-line_digits-digits)

pub slice_bounds-result-end-2 : goal.slice_bounds-result-end-2
slice_bounds-result-end-2 c = omega (arith, inside (goal.at.slice_bounds-result-end-2 c).After-line_digits-digits)

pub returns-clause-line : goal.returns-clause-line
returns-clause-line c =
    the_line _ _ (accepted-line (goal.at.returns-clause-line c).After-line_digits-digits) c.line_start-at.ensures c.line_digits-digits.ensures

pub returns-clause-stands : goal.returns-clause-stands
returns-clause-stands c =
    stands _ (c.line_start-at.ensures ∙ its_place _ _ (accepted-line (goal.at.returns-clause-stands c).After-line_digits-digits))
