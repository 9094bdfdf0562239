-- What the check leaves to say of `DigitTexts::put`.
use mathlib.Core.Path.{◌≡◌, refl}
use native.Mathlib.Omega.{arith}
use native.Mathlib.Nat.{pow-zero, div-one}
use Rattle.std.proofs.Common.{suc, ◌+◌, ◌-◌}
use Rattle.text.proofs.Puts.{put_first, rest_next}
use Rattle.text.specs.Hex.{hex}
use Rattle.text.proofs.write.DigitTexts.put.Goals as goal

pub loop-k-init : goal.loop-k-init
unfolding hex
loop-k-init g c =
    let none : g.row.N - g.row.N ≡ 0 = omega arith in
    rw (none, pow-zero, div-one) (refl, refl)

pub loop-k-preserved : goal.loop-k-preserved
loop-k-preserved g c =
    let l = c.loop-k in
    let j = g.row.N - l.k in
    let more : g.row.N - (l.k - 1) ≡ suc j = omega (arith, l.auto.k, c.loop-k-test.true) in
    let place : c.args.at + l.k ≡ suc (c.args.at + (l.k - 1)) = omega (arith, c.loop-k-test.true) in
    rw more (rest_next j c.args.v l.invariant.0, put_first _ _ (c.args.at + (l.k - 1)) j c.args.v l.invariant.0 (rw place at l.invariant.1) c.digit.ensures)
