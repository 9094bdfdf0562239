-- What the check leaves to say of `join_read`.
use native.Mathlib.Omega.{arith}
use Rattle.std.proofs.lemmas.Result.{err_from_is_err_and}
use Rattle.refusals.proofs.Main.{some_number}
use Rattle.ticket.proofs.Answers.{header_fits}
use Rattle.join.proofs.Outcome.{read_refused, read_few, read_room, read_place, read_lines, read_joined}
use Rattle.join.proofs.join_read.Goals as goal

pub returns-in_err-refused : goal.returns-in_err-refused
returns-in_err-refused c =
    let p = err_from_is_err_and c.from_residual.result c.from_residual.ensures.1 in
    let e = c.in_err-refused.field-0.0 in
    rw (p.1, p.2) (read_refused _ _ _ _ c.requires.0 c.requires.1 _ _ c.in_err-refused.ensures (λ z. omega (arith, some_number e)))

pub overflow_add-frames : goal.overflow_add-frames
overflow_add-frames c =
    let none = c.in_ok-refused.ensures in
    omega (arith, read_few _ _ _ _ c.requires.0 c.requires.1 c.args.out.now none)

pub put_header-requires : goal.put_header-requires
put_header-requires c =
    let none = c.in_ok-refused.ensures in
    omega (arith, read_room _ _ _ _ c.requires.0 c.requires.1 c.args.out.now none)

pub slice_bounds-put_merged-count : goal.slice_bounds-put_merged-count
slice_bounds-put_merged-count c =
    header_fits _ _ c.requires.0

pub slice_bounds-put_merged-start : goal.slice_bounds-put_merged-start
slice_bounds-put_merged-start c =
    header_fits _ _ c.requires.0

pub slice_bounds-put_merged-count-2 : goal.slice_bounds-put_merged-count-2
slice_bounds-put_merged-count-2 c =
    header_fits _ _ c.requires.1

pub slice_bounds-put_merged-start-2 : goal.slice_bounds-put_merged-start-2
slice_bounds-put_merged-start-2 c =
    header_fits _ _ c.requires.1

pub put_merged-requires : goal.put_merged-requires
put_merged-requires c =
    let none = c.in_ok-refused.ensures in
    let lines = read_lines _ _ _ _ c.requires.0 c.requires.1 c.args.out.now none in (
      lines.0,
      lines.1,
      omega (arith, read_few _ _ _ _ c.requires.0 c.requires.1 c.args.out.now none),
      read_place _ _ _ _ c.requires.0 c.requires.1 c.args.out.now none _ _ c.put_header.ensures,
    )

pub returns : goal.returns
returns c =
    let none = c.in_ok-refused.ensures in
    read_joined _ _ _ _ c.requires.0 c.requires.1 c.args.out.now none _ _ c.put_header.ensures c.put_merged.ensures
