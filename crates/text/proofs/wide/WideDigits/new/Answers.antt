-- What the check leaves to say of `WideDigits::new`.
use mathlib.Core.Path.{◌≡◌, refl}
use native.Mathlib.Omega.{arith}
use lib.ListN.{replicate, length-set}
use Rattle.counting.proofs.Lists.{fill}
use Rattle.text.specs.Text.{digit}
use Rattle.text.specs.Wide.{no_number, wide, wide_values}
use Rattle.text.proofs.wide.WideDigits.new.Goals as goal

pub loop-b-init : goal.loop-b-init
unfolding digit wide
loop-b-init c = (refl, refl)

pub loop-b-preserved : goal.loop-b-preserved
loop-b-preserved c =
    let l = c.loop-b in (
      simp length-set l.invariant.0,
      rw (c.from.ensures, c.wide.ensures, c.digit.ensures, l.invariant.1)
          (fill (λ k. wide (digit k)) l.b (replicate 256 no_number) (omega (arith, c.loop-b-test.true))),
    )

pub invariant_of-result : goal.invariant_of-result
unfolding digit wide wide_values
invariant_of-result c =
    let l = c.loop-b in
    let e : l.b ≡ 103 = omega (arith, c.loop-b-test.false, l.auto.b-end (omega arith)) in
    record { of_each_byte = rw e at l.invariant.1 }
