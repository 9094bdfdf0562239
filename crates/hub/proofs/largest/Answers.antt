-- What the check leaves to say of `largest`.
use mathlib.Core.Path.{ap, ◌∙◌}
use native.Mathlib.Omega.{arith}
use lib.Seq.{take_all}
use Rattle.counting.specs.Count.{largest}
use Rattle.counting.proofs.Lists.{largest_take}
use Rattle.hub.proofs.largest.Goals as goal

pub loop-x-preserved : goal.loop-x-preserved
loop-x-preserved c = omega (arith, c.loop-x.invariant, c.max-top.ensures, largest_take c.args.numbers.now c.loop-x.x-index c.loop-x-test.true)

pub returns : goal.returns
returns c = c.loop-x.invariant ∙ ap largest (take_all c.loop-x.x-index c.args.numbers.now c.loop-x-test.false)
