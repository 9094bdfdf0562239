-- What the check leaves to say of `verdicts::verdict`.
use mathlib.Core.Path.{◌∙◌}
use Rattle.checker.proofs.Whole.{few_cycles, low_plan, low_cycles, judged}
use Rattle.checker.proofs.verdicts.verdict.Goals as goal

pub pools-room-requires : goal.pools-room-requires
pools-room-requires c =
    (few_cycles c.requires.0, c.requires.1, low_plan c.requires.0 c.cycles_in-top.ensures)

pub clear-clear-requires : goal.clear-clear-requires
clear-clear-requires c =
    (c.requires.0, low_cycles c.requires.0 c.cycles_in-top.ensures, c.pools-room.ensures.roomy)

pub returns : goal.returns
returns c =
    c.complete.ensures ∙ judged c.requires.0 c.cycles_in-top.ensures c.args.save c.clear-clear.ensures c.first_fault-found.ensures c.pools-room.ensures.peak
