-- What the check leaves to say of `lines::plan`.
use native.Mathlib.Omega.{arith}
use Rattle.printing.proofs.Listed.{plan_long, no_lines, next_line, put_all}
use Rattle.print_lines.proofs.Outcome.{no_room}
use Rattle.printing.proofs.lines.plan.Goals as goal

pub returns-then-out-n : goal.returns-then-out-n
returns-then-out-n c =
    no_room _ _ (omega (arith, plan_long c.args.cards.now (record { cycles = c.args.cycles.now; T = c.args.t.0 })))

pub loop-i-init : goal.loop-i-init
loop-i-init c = no_lines _ _ _

pub loop-i-preserved : goal.loop-i-preserved
loop-i-preserved c = next_line _ _ _ _ _ _ c.loop-i.invariant c.frame_line.ensures

pub returns : goal.returns
returns c =
    put_all _ _ _ _ _ _ _ (omega arith) (omega arith) (rw c.from.ensures at c.put.ensures) c.loop-i.invariant
