-- What the check leaves to say of `put_merged`.
use native.Mathlib.Omega.{arith}
use Rattle.merged_lines.proofs.Offsets.{of_all, starts, stops, next_first, took_first, next_second, took_second}
use Rattle.merged_lines.proofs.put_merged.Goals as goal
use Rattle.merged_lines.proofs.put_merged.Goals.{then-first-second, else-first-second}

pub begin-first-requires : goal.begin-first-requires
begin-first-requires c = (omega arith, of_all _ _ c.requires.0)

pub begin-second-requires : goal.begin-second-requires
begin-second-requires c = (omega arith, of_all _ _ c.requires.1)

pub loop-line-init : goal.loop-line-init
loop-line-init c =
    let a = c.begin-first.ensures in
    let b = c.begin-second.ensures in
    (starts _ _ _ _ c.requires.0 c.requires.1 _ _ _ _ a.lines a.from a.key b.lines b.from b.key, omega arith)

pub put_next-requires-clause-next : goal.put_next-requires-clause-next
put_next-requires-clause-next c =
    next_first _ _ _ _ c.requires.0 c.requires.1 _ _ _ _ _ _ c.loop-line.invariant.0 (omega arith) (omega arith) (omega arith)

pub put_next-requires-else-first-second-clause-next : goal.put_next-requires-else-first-second-clause-next
put_next-requires-else-first-second-clause-next c =
    next_second _ _ _ _ c.requires.0 c.requires.1 _ _ _ _ _ _ c.loop-line.invariant.0 (omega arith) (omega arith) (omega arith)

pub loop-line-preserved : goal.loop-line-preserved
loop-line-preserved c =
    elim c.if-first-second.branch [
      | then-first-second w ↦
          let side = w.put_next.ensures in
          let line = rw c.loop-line.invariant.1 at side.line in
          rw (w.out-is, w.first-is, w.second-is) (
            (took_first _ _ _ _ c.requires.0 c.requires.1 _ _ _ _ _ _ c.loop-line.invariant.0 (omega arith) (omega arith) (omega arith) _ _
                line side.lines side.from side.key),
            omega (arith, c.loop-line.invariant.1),
          )
      | else-first-second w ↦
          let side = w.put_next-else-first-second.ensures in
          let line = rw c.loop-line.invariant.1 at side.line in
          rw (w.out-is, w.first-is, w.second-is) (
            (took_second _ _ _ _ c.requires.0 c.requires.1 _ _ _ _ _ _ c.loop-line.invariant.0 (omega arith) (omega arith) (omega arith) _ _
                line side.lines side.from side.key),
            omega (arith, c.loop-line.invariant.1),
          )
    ]

pub returns : goal.returns
returns c = stops _ _ _ _ c.requires.0 c.requires.1 _ _ _ _ _ _ c.loop-line.invariant.0 (omega arith)
