-- What the check leaves to say of `words::put_eight`.
use Prim.Native.Nat.{ℕ}
use mathlib.Core.Path.{ap, ◌∙◌}
use mathlib.Core.List.{List}
use native.Mathlib.Omega.{arith}
use lib.Seq.{sets}
use Rattle.counting.proofs.Parts.{part_put}
use Rattle.hub.proofs.Turning.{eight_bytes}
use Rattle.hub.proofs.words.put_eight.Goals as goal

pub returns : goal.returns
returns c =
    part_put c.args.at _ c.args.out.now _ _ (c.copy_from_slice.ensures.after ∙ c.to_le_bytes.ensures) (omega arith) c.requires
    ∙ ap (λ (l : List ℕ). sets c.args.out.now c.args.at l) (eight_bytes c.args.word)
