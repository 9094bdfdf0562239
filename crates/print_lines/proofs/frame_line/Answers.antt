-- What the check leaves to say of `frame_line`.
use Rattle.print_lines.proofs.Puts.{put_line}
use Rattle.print_lines.proofs.frame_line.Goals as goal

pub returns : goal.returns
returns c =
    put_line _ _ _ _ _ _ _ _ c.put_position.ensures (rw c.from.ensures at c.put.ensures) (rw c.from-2.ensures at c.put-2.ensures)
