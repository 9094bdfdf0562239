-- What the check leaves to say of `line_digits`.
use mathlib.Core.Path.{ap, ◌∙◌}
use Rattle.header.specs.Editions.{line_digits}
use Rattle.header.proofs.Widths.{low_width}
use Rattle.ticket.proofs.line_digits.Goals as goal

pub returns : goal.returns
returns c = c.line_digits.ensures ∙ ap line_digits c.low_edition.ensures ∙ low_width _
