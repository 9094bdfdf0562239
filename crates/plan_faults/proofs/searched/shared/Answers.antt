-- What the check leaves to say of `searched::shared`.
use mathlib.Core.Path.{◌≡◌, refl}
use mathlib.Core.Bool.{true, false}
use Rattle.std.proofs.Common.{rules, tests}
use Rattle.std.proofs.lemmas.Iterator.{cases_from_any, YieldsList-from_range}
use Rattle.plan_faults.proofs.Sharing.{same, shared_found}
use Rattle.plan_faults.proofs.searched.shared.Goals as goal

pub returns : goal.returns
returns c =
    let args = c.args in
    let hit = same args.cards.now args.plan.now args.i in
    shared_found args.cards.now args.plan.now args.i _
    (cases_from_any _ _ _ (λ k. hit k ≡ true) (λ k. hit k ≡ false) c.any.ensures.ran (YieldsList-from_range _ _ _ refl refl)
    (λ k q h. search (rules, tests)) (λ k q h. search (rules, tests)))
