-- What the check leaves to say of `cycle::first_after`.
use mathlib.Core.Path.{refl, ap, ◌∙◌}
use native.Mathlib.Omega.{arith}
use lib.Seq.{take_all}
use Rattle.std.specs.List.{fold}
use Rattle.plan_run.proofs.Cycles.{lower, lower_next, counts_itself, counts_past, first_later}
use Rattle.plan_run.proofs.cycle.first_after.Goals as goal
use Rattle.plan_run.proofs.cycle.first_after.Goals.{then-t-c, else-t-c}

pub loop-c-init : goal.loop-c-init
loop-c-init c = (refl, λ i k. absurd (omega arith))

pub loop-c-preserved : goal.loop-c-preserved
loop-c-preserved c = (
  lower_next _ _ _ _ c.loop-c-test.true c.loop-c.invariant.0 c.min-next.ensures
      (elim c.if-t-c.branch [
        | then-t-c w ↦ counts_itself _ _ w.if-t-c.true (w.after-is ∙ w.from-after.ensures)
        | else-t-c w ↦ counts_past _ _ w.if-t-c.false w.after-is
      ]),
  λ i k. omega (arith, c.type_inv.cycles i),
)

pub returns : goal.returns
returns c =
    let all = take_all c.loop-c.c-index c.args.cycles.now c.loop-c-test.false in
    c.ok.ensures.value
    ∙ first_later c.args.t.0 65536 c.args.cycles.now (λ i k. c.loop-c.invariant.1 i (omega (arith, k, c.loop-c-test.false))) _
    (c.loop-c.invariant.0 ∙ ap (fold (lower c.args.t.0 65536) 65536) all) _ c.try_from.ensures
