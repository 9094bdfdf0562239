-- What the loop of `backlog::count_up_to` keeps.
use Rattle.pool_counts.specs.Looking.{Looking}
use Rattle.pool_counts.proofs.backlog.count_up_to.Given as goal

abbrev pub ghost-whole_parts : goal.ghost-whole_parts
ghost-whole_parts g a = g.rule

abbrev pub invariant-loop-k : goal.invariant-loop-k
invariant-loop-k g l = Looking g.rule.save g.rule.own l.others l.m l.k l.count
