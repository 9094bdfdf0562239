-- What the check leaves to say of `put_header`.
use Rattle.join.proofs.HeaderText.{put_header}
use Rattle.join.proofs.put_header.Goals as goal

pub returns : goal.returns
returns c =
    put_header _ _ _ _ _ _ _ (rw c.from.ensures at c.put.ensures) (rw c.from-2.ensures at c.put-2.ensures) (rw c.from-3.ensures at c.put-3.ensures)
    (rw c.from-4.ensures at c.put-4.ensures) (rw c.from-5.ensures at c.put-5.ensures)
