-- What the check leaves to say of `by_sets::clear`.
use mathlib.Core.Path.{sym, ◌∙◌}
use Rattle.plan_faults.proofs.ClearFrames.{clear_all}
use Rattle.plan_faults.proofs.Seen.{sets_first, no_cycle_ends, member_ends, seen_next, cycle_low, no_member}
use Rattle.plan_faults.proofs.by_sets.clear.Goals as goal

pub enter-requires : goal.enter-requires
enter-requires c =
    let pre = c.requires in
    (pre.0, pre.1, pre.2.clear, sets_first _ _)

pub returns-then-cycle-eq0 : goal.returns-then-cycle-eq0
returns-then-cycle-eq0 c =
    let inv = c.loop-i.invariant in
    let front = c.loop-i-test.true in
    let pre = c.requires in
    no_cycle_ends inv front pre.2.inside c.if-cycle-eq0.true

pub returns-then-has : goal.returns-then-has
returns-then-has c =
    let has-is = c.has.ensures in
    let inv = c.loop-i.invariant in
    let has_cycle = c.if-cycle-eq0.false in
    let pre = c.requires in
    let front = c.loop-i-test.true in
    let low = cycle_low pre.0 pre.1 pre.2.inside front c.from-c.ensures in
    let member = sym has-is ∙ c.if-has.true in
    member_ends inv front pre.2.inside c.from-c.ensures low has_cycle member

pub loop-i-preserved : goal.loop-i-preserved
loop-i-preserved c =
    let has-is = c.has.ensures in
    let no_card = c.if-has.false in
    let inv = c.loop-i.invariant in
    let has_cycle = c.if-cycle-eq0.false in
    let pre = c.requires in
    let front = c.loop-i-test.true in
    let low = cycle_low pre.0 pre.1 pre.2.inside front c.from-c.ensures in
    let none = no_member _ _ (sym has-is ∙ no_card) in
    seen_next inv front pre.2.inside c.from-c.ensures low has_cycle none c.with.ensures

pub returns : goal.returns
returns c = clear_all c.loop-i.invariant.clear c.loop-i-test.false
