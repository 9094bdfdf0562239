-- What the loop of `turns` keeps. `BACK` is the number 0 or 1 here.
use Rattle.std.proofs.Common.{not, eqb}
use Rattle.greedy_pass.proofs.Tables.{Turn}
use Rattle.greedy_pass.proofs.turns.Given as goal

abbrev pub invariant-loop-k : goal.invariant-loop-k
invariant-loop-k g l =
    Turn l.m (not (eqb g.row.BACK 0)) l.cards l.initial.out l.out l.due l.latest l.made l.waiting l.k
