-- What the check leaves to say of `plans::roomy_read`.
use native.Mathlib.Omega.{arith}
use Rattle.pool_counts.proofs.Ceilings.{ahead}
use Rattle.pool_counts.proofs.Frames.{roomy_ends, read_ahead, read_covered, read_all}
use Rattle.pool_counts.proofs.plans.roomy_read.Goals as goal
use Rattle.pool_counts.proofs.plans.roomy_read.Goals.{then-ceiling-c+else-m-buffers, else-ceiling-c}

pub returns-then-m-buffers : goal.returns-then-m-buffers
returns-then-m-buffers g c =
    let inv = c.loop-i.invariant in
    let inside = c.loop-i-test.true in
    let is_ahead = ahead inv.heights c.from-c.ensures c.if-ceiling-c.true in
    let told = c.requires.told _ _ _ inside c.from-c.ensures is_ahead c.needed-buffers.ensures in
    record {
      roomy = roomy_ends inv.roomy inside (omega (arith, told, c.if-m-buffers.true));
      peak = inv.so_far;
    }

pub loop-i-preserved : goal.loop-i-preserved
loop-i-preserved g c =
    let inv = c.loop-i.invariant in
    let inside = c.loop-i-test.true in
    let cycle = c.from-c.ensures in
    elim c.if-ceiling-c.branch [
      | then-ceiling-c+else-m-buffers w ↦
          (let is_ahead = ahead inv.heights cycle w.if-ceiling-c.true in
          let told = c.requires.told _ _ _ inside cycle is_ahead w.needed-buffers.ensures in
          rw (w.ceiling-is)
          (read_ahead inv inside cycle w.if-ceiling-c.true (omega (arith, told, w.if-m-buffers.false))
          (omega (arith, told, w.if-m-buffers.false, w.max-peak.ensures, w.peak-is))))
      | else-ceiling-c w ↦ rw (w.ceiling-is, w.peak-is) (read_covered inv inside cycle w.if-ceiling-c.false)
    ]

pub returns : goal.returns
returns g c = let clauses = read_all c.loop-i.invariant c.loop-i-test.false in record { roomy = clauses.0; peak = clauses.1 }
