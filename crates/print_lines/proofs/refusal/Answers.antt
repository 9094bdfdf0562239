-- What the check leaves to say of `refusal`.
use mathlib.Core.Path.{◌∙◌}
use native.Mathlib.Omega.{arith}
use Rattle.refusals.specs.Numbers.{number_of}
use Rattle.print_lines.proofs.Outcome.{no_room, room, put_refusal, refusal_length}
use Rattle.print_lines.proofs.refusal.Goals as goal

pub returns-then-out-lt5 : goal.returns-then-out-lt5
returns-then-out-lt5 c = no_room _ _ (omega (arith, refusal_length (number_of c.args.refusal)))

pub returns : goal.returns
returns c =
    let five = refusal_length (number_of c.args.refusal) in
    room _ _ _ _ (omega (arith, five)) (omega (arith, five)) (put_refusal _ _ _ _ c.put.ensures (rw (c.from-2.ensures ∙ c.from.ensures) at c.put-2.ensures))
