-- What the check leaves to say of `pools`.
use Rattle.pool_table.proofs.Adding.{zeroed, within_limit}
use Rattle.pool_table.proofs.pools.Goals as goal

pub roomy-found-requires : goal.roomy-found-requires
roomy-found-requires c =
    let pre = c.requires in
    (zeroed, within_limit _ _ pre.0, pre.1)

pub fill-requires : goal.fill-requires
fill-requires c = (zeroed, c.requires.0)
