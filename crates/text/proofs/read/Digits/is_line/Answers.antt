-- What the check leaves to say of `Digits::is_line`.
use mathlib.Core.Path.{◌≡◌, refl, sym}
use native.Mathlib.Omega.{arith}
use Rattle.std.proofs.Common.{◌<◌}
use Rattle.text.specs.Text.{digits}
use Rattle.text.proofs.Digits.{too_short, no_digits, not_digits, digits_on, is_line_is, part_at, part_long}
use Rattle.text.proofs.read.Digits.is_line.Goals as goal

pub returns-then-long-n : goal.returns-then-long-n
returns-then-long-n c = sym (too_short _ _ _ (omega arith))

pub returns-then-long-n-2 : goal.returns-then-long-n-2
returns-then-long-n-2 c = sym (too_short _ _ _ (omega arith))

pub loop-b-init : goal.loop-b-init
unfolding digits
loop-b-init c = refl

pub returns-then-digit-ge16 : goal.returns-then-digit-ge16
returns-then-digit-ge16 c =
    let a = c.args in
    let k = c.loop-b.b-index in
    let inside : k < a.n = omega (arith, c.loop-b-test.true, part_long a.s.now a.at a.n (omega arith)) in
    let value-is = rw (part_at a.s.now a.at a.n k inside) at c.digit.ensures in
    sym (no_digits _ _ _ (not_digits _ _ _ k inside (omega (arith, value-is))))

pub loop-b-preserved : goal.loop-b-preserved
loop-b-preserved c =
    let a = c.args in
    let k = c.loop-b.b-index in
    let inside : k < a.n = omega (arith, c.loop-b-test.true, part_long a.s.now a.at a.n (omega arith)) in
    let value-is = rw (part_at a.s.now a.at a.n k inside) at c.digit.ensures in
    digits_on _ _ _ c.loop-b.invariant (omega (arith, value-is))

pub returns : goal.returns
returns c =
    let a = c.args in
    let long = part_long a.s.now a.at a.n (omega arith) in
    let e : c.loop-b.b-index ≡ a.n = omega (arith, c.loop-b-test.false, c.loop-b.auto.b-index-end, long) in
    sym (is_line_is _ _ _ (omega arith) (rw e at c.loop-b.invariant))
