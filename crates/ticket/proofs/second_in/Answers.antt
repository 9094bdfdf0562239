-- What the check leaves to say of `second_in`.
use native.Mathlib.Omega.{arith}
use Rattle.ticket.proofs.Answers.{header_fits, second_line, its_second, past_seconds}
use Rattle.ticket.proofs.second_in.Goals as goal

pub slice_bounds-second-count : goal.slice_bounds-second-count
slice_bounds-second-count c = header_fits _ _ c.requires

pub slice_bounds-second-start : goal.slice_bounds-second-start
slice_bounds-second-start c = header_fits _ _ c.requires

pub second-requires : goal.second-requires
second-requires c =
    rw c.from.ensures (second_line _ _ c.requires c.args.p.0 (omega arith))

pub returns-then-p-h : goal.returns-then-p-h
returns-then-p-h c =
    its_second _ _ c.requires c.args.p.0 (omega arith) (rw c.from.ensures at c.second.ensures)

pub returns : goal.returns
returns c =
    past_seconds _ _ c.requires c.args.p.0 (omega arith)
