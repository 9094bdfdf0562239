-- What the loop of `passing::read` keeps.
use Rattle.std.proofs.Common.{◌≡◌, ◌*◌, ◌++◌, length}
use lib.ListN.{drop}
use Rattle.counting.specs.Count.{tabulate}
use Rattle.header.specs.Editions.{line_bytes}
use Rattle.frame_lines.specs.Lines.{card_at, second_before, lines_fault}
use Rattle.frame_lines.proofs.passing.read.Given as goal

abbrev pub invariant-loop-i : goal.invariant-loop-i
invariant-loop-i g l =
    (l.at ≡ line_bytes l.fn.h.edition * l.i) × (lines_fault l.fn.h.edition l.s l.fn.h.cards l.i ≡ 0) × (length l.card ≡ length l.initial.card)
    × (l.card ≡ tabulate l.i (card_at l.fn.h.edition l.s) ++ drop l.i l.initial.card) × (l.last ≡ second_before l.fn.h.edition l.s l.i)
