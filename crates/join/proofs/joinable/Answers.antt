-- What the check leaves to say of `joinable`.
use Rattle.join.proofs.Refusals.{first_edition, first_mode, second_edition, second_mode, other_cards, then_pool}
use Rattle.join.proofs.joinable.Goals as goal

pub returns-then-g-ne-EDITION_2 : goal.returns-then-g-ne-EDITION_2
returns-then-g-ne-EDITION_2 c = first_edition _ _ c.if-g-ne-EDITION_2.true

pub returns-then-g-ne-MODE_READ : goal.returns-then-g-ne-MODE_READ
returns-then-g-ne-MODE_READ c = first_mode _ _ c.if-g-ne-EDITION_2.false c.if-g-ne-MODE_READ.true

pub returns-then-h-ne-EDITION_2 : goal.returns-then-h-ne-EDITION_2
returns-then-h-ne-EDITION_2 c = second_edition _ _ c.if-g-ne-EDITION_2.false c.if-g-ne-MODE_READ.false c.if-h-ne-EDITION_2.true

pub returns-then-h-ne-MODE_READ : goal.returns-then-h-ne-MODE_READ
returns-then-h-ne-MODE_READ c =
    second_mode _ _ c.if-g-ne-EDITION_2.false c.if-g-ne-MODE_READ.false c.if-h-ne-EDITION_2.false c.if-h-ne-MODE_READ.true

pub returns-then-g-h : goal.returns-then-g-h
returns-then-g-h c =
    other_cards _ _ c.if-g-ne-EDITION_2.false c.if-g-ne-MODE_READ.false c.if-h-ne-EDITION_2.false c.if-h-ne-MODE_READ.false c.if-g-h.true

pub returns : goal.returns
returns c =
    then_pool _ _ c.if-g-ne-EDITION_2.false c.if-g-ne-MODE_READ.false c.if-h-ne-EDITION_2.false c.if-h-ne-MODE_READ.false c.if-g-h.false
