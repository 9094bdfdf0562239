-- What the check leaves to say of `second`.
use mathlib.Core.Path.{◌∙◌}
use native.Mathlib.Omega.{arith}
use Rattle.header.proofs.Widths.{widest}
use Rattle.frame_lines.proofs.Judging.{second_fits, second_asks, second_read}
use Rattle.frame_lines.proofs.second.Goals as goal

pub overflow_add-width : goal.overflow_add-width
overflow_add-width c =
    let width = c.line_digits-width.ensures in
    omega (arith, widest c.args.edition, width, second_fits _ c.args.edition c.args.i width c.requires)

pub overflow_mul-width : goal.overflow_mul-width
overflow_mul-width c =
    let width = c.line_digits-width.ensures in
    omega (arith, widest c.args.edition, width, second_fits _ c.args.edition c.args.i width c.requires)

pub overflow_add-width-2 : goal.overflow_add-width-2
overflow_add-width-2 c =
    let width = c.line_digits-width.ensures in
    omega (arith, widest c.args.edition, width, second_fits _ c.args.edition c.args.i width c.requires)

pub number-requires : goal.number-requires
number-requires c =
    second_asks _ c.args.edition c.args.i c.line_digits-width.ensures c.requires

pub returns : goal.returns
returns c =
    c.number.ensures.0 ∙ second_read _ c.args.edition c.args.i c.line_digits-width.ensures
