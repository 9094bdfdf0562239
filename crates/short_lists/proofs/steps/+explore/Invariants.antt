-- `steps::explore` ends: it calls itself with one step more of as many.
use Rattle.std.proofs.Common.{◌-◌}
use Rattle.short_lists.proofs.steps.+explore.Given as goal

abbrev pub decreases-explore : goal.decreases-explore
decreases-explore g l = l.lists.now.longest - l.taken
