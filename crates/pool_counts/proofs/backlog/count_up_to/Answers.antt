-- What the check leaves to say of `backlog::count_up_to`.
use Rattle.pool_counts.proofs.Counting.{found_m, looked_all}
use Rattle.pool_counts.proofs.backlog.count_up_to.Goals as goal

pub returns-then-m-count : goal.returns-then-m-count
returns-then-m-count g c =
    let clauses = found_m _ _ _ _ c.loop-k.invariant c.if-m-count.true in record { count = clauses.0; looked = clauses.1 }

pub returns : goal.returns
returns g c = let clauses = looked_all _ _ _ _ c.loop-k.invariant c.loop-k-test.false in record { count = clauses.0; looked = clauses.1 }
