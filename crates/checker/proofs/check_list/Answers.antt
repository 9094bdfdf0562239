-- What the check leaves to say of `check_list`.
use native.Mathlib.Omega.{arith}
use Rattle.checker.proofs.Answers.{keep_refused, length_refused, checked}
use Rattle.checker.proofs.check_list.Goals as goal

pub returns-then-h-eq-MODE_SAVE_AND_KEEP : goal.returns-then-h-eq-MODE_SAVE_AND_KEEP
returns-then-h-eq-MODE_SAVE_AND_KEEP c = keep_refused _ _ _ c.if-h-eq-MODE_SAVE_AND_KEEP.true

pub returns-then-plan-n : goal.returns-then-plan-n
returns-then-plan-n c =
    length_refused _ _ _ c.requires c.if-h-eq-MODE_SAVE_AND_KEEP.false (λ e. omega (arith, c.if-plan-n.true, c.from-n.ensures))

pub returns : goal.returns
returns c =
    checked _ _ _ c.requires c.if-h-eq-MODE_SAVE_AND_KEEP.false (omega (arith, c.if-plan-n.false, c.from-n.ensures)) _ (rw c.from-n.ensures at c.verdict.ensures)
