-- What the loop of `patterns::words_of` keeps.
use Rattle.hub.proofs.Placing.{Ready}
use Rattle.hub.proofs.patterns.words_of.Given as goal

abbrev pub invariant-loop-q : goal.invariant-loop-q
invariant-loop-q l = Ready l.chosen l.q l.words
