-- What the loop of `place_each` keeps.
use Rattle.hub.specs.Words.{Places}
use Rattle.hub.proofs.place_each.Given as goal

abbrev pub invariant-loop-i : goal.invariant-loop-i
invariant-loop-i l = Places l.cameras l.from l.i l.initial.words l.initial.cards l.words l.cards
