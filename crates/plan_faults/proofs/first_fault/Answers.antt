-- What the check leaves to say of `first_fault`.
use Rattle.plan_faults.proofs.FirstFault.{pool_fault, no_fault, cycle_fault, has_card_fault}
use Rattle.plan_faults.proofs.first_fault.Goals as goal

pub returns-then-roomy-clear : goal.returns-then-roomy-clear
returns-then-roomy-clear c = pool_fault c.requires.1 c.if-roomy-clear.true

pub returns-then-clear-cards : goal.returns-then-clear-cards
returns-then-clear-cards c = no_fault c.requires.1 c.if-roomy-clear.false c.if-clear-cards.true

pub returns-then-plan-clear-eq0 : goal.returns-then-plan-clear-eq0
returns-then-plan-clear-eq0 c =
    let pre = c.requires in
    let cards-first = c.if-roomy-clear.false in
    let not-all = c.if-clear-cards.false in
    cycle_fault pre.1 cards-first not-all c.if-plan-clear-eq0.true

pub returns : goal.returns
returns c =
    let pre = c.requires in
    let cards-first = c.if-roomy-clear.false in
    let not-all = c.if-clear-cards.false in
    has_card_fault pre.1 cards-first not-all c.if-plan-clear-eq0.false
