-- What the check leaves to say of `backlog::backlog`.
use mathlib.Core.Path.{refl}
use mathlib.Core.Bool.{true, false}
use Rattle.pool_counts.proofs.Frames.{compared_read, rule_counted}
use Rattle.pool_counts.proofs.backlog.backlog.Goals as goal

pub returns-then-save : goal.returns-then-save
returns-then-save c =
    let args = c.args in
    let found = c.count_up_to.ensures in
    let clauses = rule_counted true args.m args.plan.now args.i c.requires.0 _ refl (found.count, found.looked) in
    record {
      count = rw c.if-save.true clauses.0;
      looked = rw c.if-save.true clauses.1;
    }

pub returns : goal.returns
returns c =
    let args = c.args in
    let found = c.count_up_to-2.ensures in
    let same = compared_read args.plan.now args.i in
    let clauses = rule_counted false args.m args.plan.now args.i c.requires.0 _ same (found.count, found.looked) in
    record {
      count = rw c.if-save.false clauses.0;
      looked = rw c.if-save.false clauses.1;
    }
