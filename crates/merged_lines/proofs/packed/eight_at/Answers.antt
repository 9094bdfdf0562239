-- What the check leaves to say of `packed::eight_at`.
use mathlib.Core.Path.{◌∙◌}
use Rattle.merged_lines.proofs.Packing.{packed_eight}
use Rattle.merged_lines.proofs.packed.eight_at.Goals as goal

pub returns : goal.returns
returns c = c.from_be_bytes.ensures ∙ packed_eight c.args.s.now c.args.at
