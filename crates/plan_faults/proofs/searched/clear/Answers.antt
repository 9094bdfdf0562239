-- What the check leaves to say of `searched::clear`.
use mathlib.Core.Path.{sym, ◌∙◌}
use Rattle.plan_faults.proofs.ClearFrames.{clear_all}
use Rattle.plan_faults.proofs.Rises.{no_cycle_stops, shared_stops}
use Rattle.plan_faults.proofs.searched.clear.Goals as goal

pub returns-then-plan-i-eq0 : goal.returns-then-plan-i-eq0
returns-then-plan-i-eq0 c =
    let inv = c.loop-i.invariant in
    let pre = c.requires in
    let inside = c.loop-i-test.true in
    no_cycle_stops inv pre.1 inside c.if-plan-i-eq0.true

pub returns-then-shared : goal.returns-then-shared
returns-then-shared c =
    let inv = c.loop-i.invariant in
    let has_cycle = c.if-plan-i-eq0.false in
    let shared-is = c.shared.ensures in
    let few = c.requires.1 in
    let inside = c.loop-i-test.true in
    shared_stops inv few inside has_cycle (sym shared-is ∙ c.if-shared.true)

pub returns : goal.returns
returns c = clear_all c.loop-i.invariant.clear c.loop-i-test.false
