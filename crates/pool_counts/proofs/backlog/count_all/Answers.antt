-- What the check leaves to say of `backlog::count_all`.
use Rattle.std.proofs.Common.{rules, tests}
use Prim.Native.Nat.{ℕ}
use mathlib.Core.Path.{◌∙◌}
use Rattle.std.proofs.lemmas.Iterator.{YieldsList-from_slice, YieldsList-from_map}
use Rattle.std.proofs.lemmas.Iterator.Consumers.{sum_by_from_yields_List}
use Rattle.counting.specs.Count.{bit}
use Rattle.pool_counts.specs.Backlog.{counts}
use Rattle.pool_counts.proofs.Counting.{counted_list}
use Rattle.pool_counts.proofs.backlog.count_all.Goals as goal

pub returns : goal.returns
returns g c =
    let others = c.args.others.now in
    let one : ℕ → ℕ = λ x. bit (counts g.rule.save g.rule.own x) in
    sum_by_from_yields_List one others _ _ c.sum.ensures.ran
    (YieldsList-from_map _ one (YieldsList-from_slice others cc) c.map.ensures.closure (λ x r q k. search (rules, tests)))
    ∙ counted_list g.rule.save g.rule.own others
