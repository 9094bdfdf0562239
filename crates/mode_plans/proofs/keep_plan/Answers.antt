-- What the check leaves to say of `keep_plan`.
use Rattle.std.proofs.Common.{rules, ◌≡◌, get_or, arith}
use Rattle.greedy_pass.specs.AsOf.{as_of}
use Rattle.counting.proofs.Firsts.{replaced_next}
use Rattle.mode_plans.proofs.Plans.{replaced_all, kept}
use Rattle.mode_plans.proofs.keep_plan.Goals as goal
use Rattle.mode_plans.proofs.keep_plan.Goals.{Joined-shown-kept, then-shown-kept, else-shown-kept}

-- the cycle as save and keep shows it
shown :
    (c : Joined-shown-kept)
    → c.if-shown-kept.shown ≡ as_of c.pass-kept.result.made.0 (get_or c.loop-shown.shown-items c.loop-shown.shown-index 0)
shown c = elim c.if-shown-kept.branch [ then-shown-kept w ↦ search rules | else-shown-kept w ↦ search rules ]

pub loop-shown-preserved : goal.loop-shown-preserved
loop-shown-preserved c =
    replaced_next c.loop-shown.invariant _ (omega arith) (shown (goal.at.loop-shown-preserved c).Joined-shown-kept)

pub returns : goal.returns
returns c = kept c.requires c.pass-kept.ensures (replaced_all c.loop-shown.invariant (omega arith))
