-- What the check leaves to say of `run_list`.
use native.Mathlib.Omega.{arith}
use Rattle.plan_run.proofs.Runs as runs
use Rattle.plan_run.proofs.run_list.Goals as goal

pub returns-then-plan-n : goal.returns-then-plan-n
returns-then-plan-n c =
    runs.wrong_length c.args.h c.args.memory.now c.args.plan.now c.requires (λ e. omega (arith, c.if-plan-n.true, c.from-n.ensures))

pub answer-requires : goal.answer-requires
answer-requires c =
    runs.plan_asked c.args.h c.args.memory.now c.args.plan.now c.requires
    (omega (arith, c.if-plan-n.false, c.from-n.ensures)) _ c.at_start-p.ensures _
    (omega (arith, c.cycles_in-last.ensures)) (omega (arith, c.cycles_in-last.type_inv)) _ _ c.all_cycles-q.ensures

pub returns : goal.returns
returns c =
    runs.plan_ran c.args.h c.args.memory.now c.args.plan.now c.requires
    (omega (arith, c.if-plan-n.false, c.from-n.ensures)) _ c.at_start-p.ensures _
    (omega (arith, c.cycles_in-last.ensures)) (omega (arith, c.cycles_in-last.type_inv)) _ _ c.all_cycles-q.ensures _ c.answer.ensures
