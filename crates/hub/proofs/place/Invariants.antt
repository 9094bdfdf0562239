-- What the loop of `place` keeps.
use Prim.Native.Nat.{◌*◌}
use Rattle.hub.specs.Words.{Placing}
use Rattle.hub.proofs.place.Given as goal

abbrev pub invariant-loop-block : goal.invariant-loop-block
invariant-loop-block l = Placing l.chosen l.cameras l.initial.cards (8 * l.block) l.words l.cards
