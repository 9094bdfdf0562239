-- What the check leaves to say of `print_list`.
use Rattle.printing.proofs.Listed.{text_is}
use Rattle.printing.proofs.print_list.Goals as goal

pub returns : goal.returns
returns c =
    rw (← text_is _ _ c.requires _ _ _ (rw c.from-n.ensures at c.fill-cycles.ensures)) (rw c.from-n.ensures at c.plan.ensures)
