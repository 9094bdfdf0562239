-- What the loops of `saves::save_list` keep.
use Rattle.saver.specs.Calls.{Given}
use Rattle.short_lists.proofs.saves.save_list.Given as goal

abbrev pub invariant-loop-card : goal.invariant-loop-card
invariant-loop-card l = Given l.saver

abbrev pub invariant-loop : goal.invariant-loop
invariant-loop l = Given l.saver
