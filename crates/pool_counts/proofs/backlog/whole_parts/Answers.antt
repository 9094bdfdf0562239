-- What the check leaves to say of `backlog::whole_parts`.
use mathlib.Core.Path.{sym, ◌∙◌}
use native.Mathlib.Omega.{arith}
use Rattle.pool_counts.proofs.Counting.{part_few, looking_part, rest_left}
use Rattle.pool_counts.proofs.backlog.whole_parts.Goals as goal

pub overflow_add-count : goal.overflow_add-count
overflow_add-count g c =
    let inv = c.loop-part.invariant in
    let cut = sym inv.left ∙ c.in-Some.ensures.steps.1.0 in
    omega (arith, part_few _ _ _ _ inv.so_far _ _ cut c.count_all-more.ensures, c.requires)

pub loop-part-preserved : goal.loop-part-preserved
loop-part-preserved g c =
    let inv = c.loop-part.invariant in
    let cut = sym inv.left ∙ c.in-Some.ensures.steps.1.0 in
    record {
      so_far = looking_part _ _ _ _ inv.so_far _ _ cut c.count_all-more.ensures c.if-m-count.false;
      left = rest_left _ _ _ _ cut;
      size = c.in-Some.ensures.steps.0 ∙ inv.size;
    }
