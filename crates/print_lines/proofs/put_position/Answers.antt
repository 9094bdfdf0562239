-- What the check leaves to say of `put_position`.
use Rattle.print_lines.proofs.Puts.{put_position}
use Rattle.print_lines.proofs.put_position.Goals as goal

pub returns : goal.returns
returns c = put_position _ _ _ c.from.ensures c.requires.1 c.put.ensures
