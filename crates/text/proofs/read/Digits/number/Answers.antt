-- What the check leaves to say of `Digits::number`.
use mathlib.Core.Path.{◌≡◌, refl}
use native.Mathlib.Omega.{arith}
use Rattle.std.proofs.Common.{◌<◌}
use Rattle.text.specs.Text.{number}
use Rattle.text.proofs.Digits.{number_on, number_fits, number_lt, part_at, part_long}
use Rattle.text.proofs.read.Digits.number.Goals as goal

pub loop-b-init : goal.loop-b-init
unfolding number
loop-b-init c = refl

pub overflow_mul-sum : goal.overflow_mul-sum
overflow_mul-sum c =
    let a = c.args in
    let k = c.loop-b.b-index in
    let inside : k < a.n = omega (arith, c.loop-b-test.true, part_long a.s.now a.at a.n c.requires.1) in
    let fits = number_fits _ _ a.n k c.requires.0 inside c.requires.2 in
    omega (arith, c.loop-b.invariant, fits)

pub overflow_add-sum : goal.overflow_add-sum
overflow_add-sum c =
    let a = c.args in
    let k = c.loop-b.b-index in
    let inside : k < a.n = omega (arith, c.loop-b-test.true, part_long a.s.now a.at a.n c.requires.1) in
    let value-is = rw (part_at a.s.now a.at a.n k inside) at c.digit.ensures in
    let fits = number_fits _ _ a.n k c.requires.0 inside c.requires.2 in
    omega (arith, c.loop-b.invariant, fits, value-is, c.from.ensures)

pub loop-b-preserved : goal.loop-b-preserved
loop-b-preserved c =
    let a = c.args in
    let k = c.loop-b.b-index in
    let inside : k < a.n = omega (arith, c.loop-b-test.true, part_long a.s.now a.at a.n c.requires.1) in
    let value-is = rw (part_at a.s.now a.at a.n k inside) at c.digit.ensures in
    omega (arith, c.loop-b.invariant, value-is, c.from.ensures, number_on a.s.now a.at k)

pub returns : goal.returns
returns c =
    let a = c.args in
    let long = part_long a.s.now a.at a.n c.requires.1 in
    let e : c.loop-b.b-index ≡ a.n = omega (arith, c.loop-b-test.false, c.loop-b.auto.b-index-end, long) in
    let v = rw e at c.loop-b.invariant in
    (v, rw v (number_lt _ _ _ c.requires.2))
