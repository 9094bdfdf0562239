-- What the check leaves to say of `header_answer`.
use mathlib.Core.Path.{sym, ◌∙◌}
use Rattle.header.proofs.Widths.{is_known, unknown}
use Rattle.header.proofs.Judged.{edition_refused, edition_passes}
use Rattle.header.proofs.header_answer.Goals as goal

pub returns-then-known : goal.returns-then-known
returns-then-known c =
    let k = is_known _ (sym c.known.ensures ∙ c.if-known.true) in
    c.within_limits.ensures ∙ sym (edition_passes _ k)

pub returns : goal.returns
returns c = sym (edition_refused _ (unknown _ (sym c.known.ensures ∙ c.if-known.false)))
