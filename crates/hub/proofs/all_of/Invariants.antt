-- What the loop of `all_of` keeps.
use mathlib.Core.Path.{◌≡◌}
use mathlib.Core.Bool.{true}
use Rattle.hub.specs.Words.{AllOf}
use Rattle.hub.proofs.all_of.Given as goal

abbrev pub invariant-loop-other : goal.invariant-loop-other
invariant-loop-other l =
    (l.same ≡ true → AllOf l.camera l.cameras l.at l.other-index) × (AllOf l.camera l.cameras l.at l.other-index → l.same ≡ true)
