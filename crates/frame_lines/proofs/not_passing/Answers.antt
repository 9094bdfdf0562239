-- What the check leaves to say of `not_passing`.
use mathlib.Core.Path.{sym, ◌∙◌}
use native.Mathlib.Omega.{arith}
use Rattle.header.proofs.Widths.{widest}
use Rattle.frame_lines.proofs.OneLine.{few_bytes}
use Rattle.frame_lines.proofs.Judging.{card_asks, judged_7, judged_8, judged_17}
use Rattle.frame_lines.proofs.not_passing.Goals as goal

pub overflow_add-at : goal.overflow_add-at
overflow_add-at c = omega (arith, widest c.args.h.edition, c.line_digits-width.ensures)

pub overflow_mul-at : goal.overflow_mul-at
overflow_mul-at c = omega (arith, few_bytes c.args.h.edition c.args.i c.line_digits-width.ensures c.requires)

pub number-requires : goal.number-requires
number-requires c =
    let line = sym (c.is_line.ensures) ∙ c.if-is_line.true in
    card_asks _ c.args.h.edition _ c.line_digits-width.ensures line

pub returns-then-number-from : goal.returns-then-number-from
returns-then-number-from c =
    let d = c.line_digits-width in
    let line = sym (c.is_line.ensures) ∙ c.if-is_line.true in
    judged_17 _ c.args.h.edition c.args.h.cards c.args.i d.ensures line c.number.ensures.0 (omega (arith, c.from.ensures))

pub returns-then-is_line : goal.returns-then-is_line
returns-then-is_line c =
    let d = c.line_digits-width in
    let line = sym (c.is_line.ensures) ∙ c.if-is_line.true in
    judged_8 _ c.args.h.edition c.args.h.cards c.args.i d.ensures line c.number.ensures.0 (omega (arith, c.from.ensures))

pub returns : goal.returns
returns c =
    let line = sym (c.is_line.ensures) ∙ c.if-is_line.false in
    judged_7 _ c.args.h.edition c.args.h.cards c.args.i c.line_digits-width.ensures line
