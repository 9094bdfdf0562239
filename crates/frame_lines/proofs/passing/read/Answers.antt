-- What the check leaves to say of `passing::read`.
use mathlib.Core.Path.{◌≡◌, refl, ◌∙◌}
use native.Mathlib.Omega.{arith}
use Rattle.std.proofs.Common.{◌+◌}
use lib.ListN.{length, length-set}
use Rattle.counting.proofs.Lists.{fill}
use Rattle.header.proofs.Widths.{widest}
use Rattle.header.specs.Editions.{card_digits, line_digits}
use Rattle.frame_lines.specs.Lines.{card_at, lines_fault}
use Rattle.frame_lines.proofs.OneLine.{line_fits, line_next, is_card, too_high, no_second, falls, other_end, passes}
use Rattle.frame_lines.proofs.OneLine.{none_read, one_read, before_first, before_next}
use Rattle.frame_lines.proofs.passing.read.Goals as goal

pub overflow_add-width : goal.overflow_add-width
overflow_add-width g c = omega (arith, c.requires.3, widest c.args.h.edition)

pub loop-i-init : goal.loop-i-init
unfolding lines_fault
loop-i-init g c = (omega arith, refl, refl, refl, before_first c.args.h.edition _)

pub returns-then-below-number : goal.returns-then-below-number
returns-then-below-number g c =
    let l = c.loop-i in
    let v = c.pair-number in
    record {
      up_to = omega arith;
      pass = l.invariant.1;
      stops = λ k. too_high _ _ _ l.i l.at v.result l.invariant.0 v.ensures (omega arith);
      filled = l.invariant.3;
    }

pub returns-then-second-ge-NO_NUMBER : goal.returns-then-second-ge-NO_NUMBER
returns-then-second-ge-NO_NUMBER g c =
    let l = c.loop-i in
    let v = c.pair-number in
    let x = c.second-second in
    let none = none_read c.args.h.edition _ l.i l.at x.result c.requires.3 l.invariant.0 x.ensures (omega arith) in
    record {
      up_to = omega arith;
      pass = l.invariant.1;
      stops = λ k. no_second _ _ _ l.i l.at v.result l.invariant.0 v.ensures none;
      filled = l.invariant.3;
    }

pub returns-then-second-last : goal.returns-then-second-last
returns-then-second-last g c =
    let l = c.loop-i in
    let v = c.pair-number in
    let x = c.second-second in
    let one = one_read c.args.h.edition _ l.i l.at x.result c.requires.3 l.invariant.0 x.ensures (omega arith) in
    record {
      up_to = omega arith;
      pass = l.invariant.1;
      stops = λ k. falls _ _ _ l.i l.at v.result l.invariant.0 v.ensures (omega (arith, one.1, l.invariant.4));
      filled = l.invariant.3;
    }

pub returns-then-s-at-ne-END : goal.returns-then-s-at-ne-END
returns-then-s-at-ne-END g c =
    let l = c.loop-i in
    let v = c.pair-number in
    let width : card_digits + c.DIGITS-width.result ≡ line_digits c.args.h.edition = omega (arith, c.requires.3, c.DIGITS-width.ensures) in
    record {
      up_to = omega arith;
      pass = l.invariant.1;
      stops = λ k. other_end _ _ _ l.i l.at v.result l.invariant.0 v.ensures width (λ e. omega arith);
      filled = l.invariant.3;
    }

pub loop-i-preserved : goal.loop-i-preserved
loop-i-preserved g c =
    let l = c.loop-i in
    let v = c.pair-number in
    let x = c.second-second in
    let a = c.args in
    let s = a.s.now in
    let edition = a.h.edition in
    let width : card_digits + c.DIGITS-width.result ≡ line_digits edition = omega (arith, c.requires.3, c.DIGITS-width.ensures) in
    let is : v.result ≡ card_at edition s l.i = is_card _ _ a.h.cards _ l.at v.result l.invariant.0 v.ensures in
    let one = one_read edition _ l.i l.at x.result c.requires.3 l.invariant.0 x.ensures (omega arith) in
    let inside = line_fits edition l.i l.at l.invariant.0 a.lines (length s) c.loop-i-test.true c.requires.2 in (
      line_next edition l.i l.at l.invariant.0 width,
      passes _ _ _ _ l.at v.result l.invariant.0 v.ensures (omega arith) (omega arith) one.0 (omega (arith, one.1, l.invariant.4)) width
          (omega (arith, width, inside)) (omega arith) l.invariant.1,
      simp length-set l.invariant.2,
      rw (l.invariant.3, is) (fill (card_at edition s) l.i a.card.now (omega arith)),
      one.1 ∙ before_next edition s l.i,
    )
