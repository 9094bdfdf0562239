-- What the check leaves to say of `steps::end_cycle`.
use Prim.Native.Nat.{◌+◌, min}
use mathlib.Core.Path.{◌≡◌, refl}
use native.Mathlib.Omega.{arith}
use Rattle.dock.specs.State.{most_cycles}
use Rattle.dock.proofs.Taken.{end_within}
use Rattle.dock.proofs.steps.end_cycle.Goals as goal

pub returns : goal.returns
returns c =
    let next : c.saturating_add.result ≡ min (c.args.dock.ended + 1) most_cycles = omega arith in
    end_within c.args.dock _ c.if-dock.false c.hand_over-n.ensures c.saturating_sub.ensures next _ refl
