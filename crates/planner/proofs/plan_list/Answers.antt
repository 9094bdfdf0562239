-- What the check leaves to say of `plan_list`.
use native.Mathlib.Omega.{arith}
use Rattle.planner.proofs.Answers.{too_small, planned}
use Rattle.planner.proofs.plan_list.Goals as goal

pub returns-then-out-n : goal.returns-then-out-n
returns-then-out-n c = too_small _ _ _ c.requires (omega (arith, c.if-out-n.true, c.from-n.ensures))

pub returns : goal.returns
returns c =
    planned _ _ _ c.requires (omega (arith, c.if-out-n.false, c.from-n.ensures)) _ _ (rw c.from-n.ensures at c.fill.ensures)
