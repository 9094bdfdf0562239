-- What the check leaves to say of `read_part`.
use native.Mathlib.Omega.{arith}
use Rattle.std.proofs.lemmas.Result.{err_from_is_err_and}
use Rattle.refusals.proofs.Main.{some_number}
use Rattle.ticket.proofs.read_part.Goals as goal
use Rattle.ticket.proofs.Memory.{long, few_frames, part_refused, part_accepted, part_into_is}

pub slice_bounds-read_lines-count : goal.slice_bounds-read_lines-count
slice_bounds-read_lines-count c = long _ c.args.h c.requires.0

pub slice_bounds-read_lines-start : goal.slice_bounds-read_lines-start
slice_bounds-read_lines-start c = long _ c.args.h c.requires.0

pub read_lines-requires : goal.read_lines-requires
read_lines-requires c =
    let few = few_frames _ c.args.h c.requires.0 in
    (omega (arith, few, c.requires.1), few)

pub returns-in_err-read_lines : goal.returns-in_err-read_lines
returns-in_err-read_lines c =
    let p = err_from_is_err_and c.from_residual.result c.from_residual.ensures.1 in
    let e = c.in_err-read_lines.field-0.0 in
    let read = c.in_err-read_lines.ensures in
    rw (p.1, p.2)
    (part_refused _ c.args.h c.requires.0 read.0 (λ z. omega (arith, some_number e)), part_into_is _ c.args.h c.requires.0 _ read.1)

pub returns : goal.returns
returns c =
    let read = c.in_ok-read_lines.ensures in
    (part_accepted _ c.args.h c.requires.0 read.0 (omega arith), part_into_is _ c.args.h c.requires.0 _ read.1)
