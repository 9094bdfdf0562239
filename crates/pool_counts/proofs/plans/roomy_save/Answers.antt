-- What the check leaves to say of `plans::roomy_save`.
use Prim.Native.Nat.{◌≤◌, ◌<◌}
use mathlib.Core.Path.{sym, ◌∙◌}
use mathlib.Core.Bool.{true}
use Rattle.std.proofs.Common.{rules, tests}
use Rattle.std.proofs.lemmas.Iterator.{first_from_Range}
use Rattle.schedule.specs.Schedule.{o_backlog}
use Rattle.pool_counts.proofs.Frames.{first_overfull, all_have_room}
use Rattle.pool_counts.proofs.plans.roomy_save.Goals as goal

pub returns-then-all_roomy_save : goal.returns-then-all_roomy_save
returns-then-all_roomy_save c =
    let args = c.args in
    all_have_room args.m args.plan.now (sym c.all_roomy_save.ensures ∙ c.if-all_roomy_save.true)

pub returns : goal.returns
returns c =
    let m = c.args.m in
    let plan = c.args.plan.now in
    c.unwrap_or.ensures
    ∙ first_overfull true m plan _
    (first_from_Range _ _ _ _ (λ i. m ≤ o_backlog plan i) (λ i. o_backlog plan i < m) c.find.ensures.ran
    (λ x q k. search (rules, tests)) (λ x q k. search (rules, tests)))
