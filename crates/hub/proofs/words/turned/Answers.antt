-- What the check leaves to say of `words::turned`.
use mathlib.Core.Path.{◌∙◌}
use native.Mathlib.Omega.{arith}
use Rattle.hub.proofs.Turning.{turn_is}
use Rattle.hub.proofs.words.turned.Goals as goal

pub returns : goal.returns
returns c = c.rotate_right.ensures ∙ turn_is c.args.word (omega arith)
