-- What the loop of `keep_plan` keeps: the cycles before the index are as save and keep shows them.
use Rattle.greedy_pass.specs.AsOf.{as_of}
use Rattle.counting.proofs.Firsts.{Replaced}
use Rattle.mode_plans.proofs.keep_plan.Given as goal

abbrev pub invariant-loop-shown : goal.invariant-loop-shown
invariant-loop-shown l = Replaced (as_of l.kept.made.0) l.shown-index l.initial.shown-items l.shown-items
