-- What the check leaves to say of `packed::upper_two`.
use mathlib.Core.Path.{◌∙◌}
use native.Mathlib.Omega.{arith}
use Rattle.merged_lines.proofs.Capitals.{two_small, two_less, two_upper}
use Rattle.merged_lines.proofs.packed.upper_two.Goals as goal

pub upper_all-requires : goal.upper_all-requires
upper_all-requires c =
    (two_small _ _ _ c.requires.0 c.requires.1 (omega arith), two_less _ _ _ c.requires.0 c.requires.1 (omega arith))

pub returns : goal.returns
returns c = c.upper_all.ensures ∙ two_upper _ _ _ c.requires.0 c.requires.1 (omega arith)
