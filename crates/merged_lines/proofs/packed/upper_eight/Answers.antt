-- What the check leaves to say of `packed::upper_eight`.
use Rattle.merged_lines.proofs.Capitals.{eight_small, eight_less, eight_upper}
use mathlib.Core.Path.{◌∙◌}
use Rattle.merged_lines.proofs.packed.upper_eight.Goals as goal

pub upper_all-requires : goal.upper_all-requires
upper_all-requires c =
    (eight_small _ _ c.requires.1 _ c.eight_at.ensures, eight_less _ _ c.requires.1 _ c.eight_at.ensures)

pub returns : goal.returns
returns c = c.upper_all.ensures ∙ eight_upper _ _ c.requires.1 _ c.eight_at.ensures
