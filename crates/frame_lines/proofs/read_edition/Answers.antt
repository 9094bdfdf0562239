-- What the check leaves to say of `read_edition`.
use native.Mathlib.Omega.{arith}
use Rattle.header.proofs.Widths.{no_second}
use Rattle.frame_lines.proofs.OneLine.{eight_of}
use Rattle.frame_lines.proofs.read_edition.Goals as goal

pub read-requires : goal.read-requires
read-requires c = (c.requires.0, c.requires.1, c.requires.2, eight_of (omega arith))

pub read-requires-2 : goal.read-requires-2
read-requires-2 c = (c.requires.0, c.requires.1, c.requires.2, no_second c.args.h.edition (λ e. omega arith))
