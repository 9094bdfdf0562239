-- What the check leaves to say of `WideDigits::number`.
use Prim.Native.Nat.{◌+◌}
use mathlib.Core.Path.{refl}
use native.Mathlib.Omega.{arith}
use lib.ListN.{get_or}
use Rattle.std.proofs.Common.{◌<◌}
use Rattle.text.specs.Text.{digit}
use Rattle.text.specs.Wide.{wide_number}
use Rattle.text.proofs.Digits.{part_at, part_long}
use Rattle.text.proofs.WideNumbers.{wide_most, wide_on, wide_top}
use Rattle.text.proofs.wide.WideDigits.number.Goals as goal

pub loop-b-init : goal.loop-b-init
unfolding wide_number
loop-b-init c = refl

pub overflow_mul-sum : goal.overflow_mul-sum
overflow_mul-sum c =
    let a = c.args in
    let k = c.loop-b.b-index in
    let inside : k < a.n = omega (arith, c.loop-b-test.true, part_long a.s.now a.at a.n c.requires.1) in
    omega (arith, c.loop-b.invariant, wide_top a.s.now a.at k (omega (arith, c.requires.0)))

pub overflow_add-sum : goal.overflow_add-sum
overflow_add-sum c =
    let a = c.args in
    let k = c.loop-b.b-index in
    let inside : k < a.n = omega (arith, c.loop-b-test.true, part_long a.s.now a.at a.n c.requires.1) in
    let value-is = rw (part_at a.s.now a.at a.n k inside) at c.digit.ensures in
    let most = wide_most (digit (get_or a.s.now (a.at + k) 0)) in
    omega (arith, c.loop-b.invariant, value-is, most, wide_top a.s.now a.at k (omega (arith, c.requires.0)))

pub loop-b-preserved : goal.loop-b-preserved
loop-b-preserved c =
    let a = c.args in
    let k = c.loop-b.b-index in
    let inside : k < a.n = omega (arith, c.loop-b-test.true, part_long a.s.now a.at a.n c.requires.1) in
    let value-is = rw (part_at a.s.now a.at a.n k inside) at c.digit.ensures in
    omega (arith, c.loop-b.invariant, value-is, wide_on a.s.now a.at k)
