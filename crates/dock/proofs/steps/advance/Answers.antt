-- What the check leaves to say of `steps::advance`.
use Rattle.dock.proofs.Taken.{stays_broken, performed}
use Rattle.dock.proofs.steps.advance.Goals as goal

pub returns-then-dock : goal.returns-then-dock
returns-then-dock c = stays_broken c.args.dock _ _ c.if-dock.true

pub returns-in-Read : goal.returns-in-Read
returns-in-Read c = rw c.in-Read.is (performed _ _ _ c.if-dock.false c.read_frame.ensures)

pub returns-in-Drop : goal.returns-in-Drop
returns-in-Drop c = rw c.in-Drop.is (performed _ _ _ c.if-dock.false c.drop_frame.ensures)

pub returns-in-End : goal.returns-in-End
returns-in-End c = rw c.in-End.is (performed _ _ _ c.if-dock.false c.end_cycle.ensures)
