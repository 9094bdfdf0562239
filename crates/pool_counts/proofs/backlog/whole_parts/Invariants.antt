-- What the loop of `backlog::whole_parts` keeps.
use mathlib.Core.Path.{◌≡◌}
use lib.ListN.{drop}
use Rattle.pool_counts.specs.Looking.{Looking}
use Rattle.pool_counts.proofs.backlog.whole_parts.Given as goal

abbrev pub ghost-count_all : goal.ghost-count_all
ghost-count_all g a = g.rule

abbrev pub invariant-loop-part : goal.invariant-loop-part
invariant-loop-part g l =
    record {
      so_far : Looking g.rule.save g.rule.own l.others l.m l.looked l.count;
      left : l.part-iterator.rest.now ≡ drop l.looked l.others;
      size : l.part-iterator.size ≡ 1024;
    }
