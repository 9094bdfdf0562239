-- What the check leaves to say of `put_line`.
use native.Mathlib.Omega.{arith}
use Rattle.merged_lines.proofs.OneLine.{card_small, whole_line}
use Rattle.merged_lines.proofs.put_line.Goals as goal

pub overflow_cast-out-2 : goal.overflow_cast-out-2
overflow_cast-out-2 c =
    omega (arith, card_small _ _ c.requires.0 _ _ _ _ c.requires.1 c.put_eight.ensures _ c.upper_two-card.ensures)

pub returns : goal.returns
returns c =
    whole_line _ _ c.requires.0 _ _ _ _ c.requires.1 c.put_eight.ensures _ c.upper_two-card.ensures
