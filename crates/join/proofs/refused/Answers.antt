-- What the check leaves to say of `refused`.
use mathlib.Core.Path.{sym, ◌∙◌}
use Rattle.join.proofs.Refusals.{not_joinable, too_many, no_room, no_refusal}
use Rattle.join.proofs.refused.Goals as goal

pub returns-then-frames-gt-FRAMES : goal.returns-then-frames-gt-FRAMES
returns-then-frames-gt-FRAMES c =
    too_many _ _ _ (sym c.if-joinable.true ∙ c.joinable.ensures) c.if-frames-gt-FRAMES.true

pub returns-then-places-frames : goal.returns-then-places-frames
returns-then-places-frames c =
    no_room _ _ _ (sym c.if-joinable.true ∙ c.joinable.ensures) c.if-frames-gt-FRAMES.false c.if-places-frames.true

pub returns-then-joinable : goal.returns-then-joinable
returns-then-joinable c =
    no_refusal _ _ _ (sym c.if-joinable.true ∙ c.joinable.ensures) c.if-frames-gt-FRAMES.false c.if-places-frames.false

pub returns : goal.returns
returns c = not_joinable _ _ _ (sym c.if-joinable.false ∙ c.joinable.ensures)
