-- What the check leaves to say of `packed::put_eight`.
use native.Mathlib.Omega.{arith}
use mathlib.Core.Path.{ap, ◌∙◌}
use mathlib.Core.List.{List}
use Prim.Native.Nat.{ℕ}
use lib.Seq.{sets}
use Rattle.counting.proofs.Parts.{part_put}
use Rattle.merged_lines.proofs.Packing.{eight_bytes}
use Rattle.merged_lines.proofs.packed.put_eight.Goals as goal

pub returns : goal.returns
returns c =
    part_put c.args.at _ c.args.out.now _ _ (c.copy_from_slice.ensures.after ∙ c.to_be_bytes.ensures) (omega arith) c.requires
    ∙ ap (λ (l : List ℕ). sets c.args.out.now c.args.at l) (eight_bytes c.args.v)
