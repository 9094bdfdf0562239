-- What the check leaves to say of `cycle::Plan::one_cycle`.
use mathlib.Core.Path.{sym, ◌∙◌}
use native.Mathlib.Omega.{arith}
use Rattle.plan_run.proofs.Cycles as cycles
use Rattle.plan_run.proofs.cycle.Plan.one_cycle.Goals as goal
use Rattle.plan_run.proofs.cycle.Plan.one_cycle.Goals.{then-eq, else-eq}

pub returns : goal.returns
returns c =
    elim c.if-eq.branch [
      | then-eq w ↦ cycles.cycle_ends c.requires.0 (omega arith) (rw (w.q-is, w.memory-is) w.reads-q.ensures) c.track.ensures
      | else-eq w ↦
          (let none = cycles.reads_of_none _ _ c.args.next c.requires.0 c.requires.1
          (cycles.other_next c.args.next _ (sym c.eq.ensures ∙ w.if-eq.false)) in
          cycles.cycle_ends c.requires.0 (omega arith) (rw (w.q-is, w.memory-is) none) c.track.ensures)
    ]
