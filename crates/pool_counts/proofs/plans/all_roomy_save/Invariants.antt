-- What the loop of `plans::all_roomy_save` keeps.
use Rattle.pool_counts.specs.Pools.{past_all}
use Rattle.pool_counts.proofs.Frames.{SaveTurn}
use Rattle.pool_counts.proofs.plans.all_roomy_save.Given as goal

abbrev pub invariant-loop-i : goal.invariant-loop-i
invariant-loop-i l = SaveTurn past_all l.m l.plan l.i l.floor
