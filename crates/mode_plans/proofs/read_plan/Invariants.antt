-- What the loop of `read_plan` keeps: the cycles before the index are turned round.
use Rattle.std.proofs.Common.{◌+◌, ◌-◌}
use Rattle.counting.proofs.Firsts.{Replaced}
use Rattle.mode_plans.proofs.read_plan.Given as goal

abbrev pub invariant-loop-cycle : goal.invariant-loop-cycle
invariant-loop-cycle l = Replaced (λ c. l.turned.all.0 - c + 1) l.cycle-index l.initial.cycle-items l.cycle-items
