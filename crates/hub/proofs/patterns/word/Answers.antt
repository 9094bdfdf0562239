-- What the check leaves to say of `patterns::word`.
use mathlib.Core.Path.{◌∙◌}
use Rattle.hub.proofs.Turning.{word_is}
use Rattle.hub.proofs.patterns.word.Goals as goal

pub returns : goal.returns
returns c = rw c.row.ensures at c.from_le_bytes.ensures ∙ word_is c.args.pattern
