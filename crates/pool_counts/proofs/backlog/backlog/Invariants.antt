-- The rules by which `backlog::backlog` has others counted.
use mathlib.Core.Bool.{true, false}
use Rattle.pool_counts.proofs.backlog.backlog.Given as goal

abbrev pub ghost-count_up_to : goal.ghost-count_up_to
ghost-count_up_to a = record { save = true; own = a.counts.now.0.now }

abbrev pub ghost-count_up_to-2 : goal.ghost-count_up_to-2
ghost-count_up_to-2 a = record { save = false; own = a.counts.now.0.now }
