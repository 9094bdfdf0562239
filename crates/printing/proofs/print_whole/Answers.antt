-- What the check leaves to say of `print_whole`.
use mathlib.Core.Path.{◌∙◌}
use Rattle.printing.proofs.Short.{whole_text}
use native.Mathlib.Omega.{arith}
use Rattle.printing.proofs.print_whole.Goals as goal

pub returns : goal.returns
returns c =
    let w = whole_text c.args.ticket.now c.args.out.now (omega arith) in
    record {
      answer = c.print.ensures.answer ∙ w.0;
      buffer = c.print.ensures.buffer ∙ w.1;
      front = c.print.ensures.front;
    }
