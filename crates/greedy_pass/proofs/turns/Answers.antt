-- What the check leaves to say of `turns`. The loop's invariant is `Turn` of proofs/Tables.antt; each turn is one frame of the list.
use Prim.Native.Nat.{◌<◌, ◌+◌}
use mathlib.Core.Path.{sym, ◌∙◌}
use native.Mathlib.Omega.{arith}
use Rattle.std.proofs.Common.{not, eqb}
use Rattle.std.proofs.lemmas.Iterator.{YieldsList-from_slice}
use Rattle.std.proofs.lemmas.Iterator.Consumers.{YieldsList-from_copied}
use Rattle.schedule.proofs.Largest.{largest_from_max}
use Rattle.greedy_pass.proofs.Tables.{Open}
use Rattle.greedy_pass.proofs.Tables as tables
use Rattle.greedy_pass.proofs.turns.Given.{Over}
use Rattle.greedy_pass.proofs.turns.Goals as goal
use Rattle.greedy_pass.proofs.turns.Goals.{Joined-m-waiting, After-max-u, then-m-waiting, else-m-waiting}

-- the pool was full and a cycle is made, or there was room
opened :
    (g : Over) (c : Joined-m-waiting g)
    → Open c.args.m (not (eqb g.row.BACK 0)) c.args.cards.now c.loop-k.out c.loop-k.due c.loop-k.latest c.if-m-waiting.made c.if-m-waiting.waiting c.loop-k.k
opened g c =
    let f = c.requires in
    let v = c.loop-k.invariant in
    elim c.if-m-waiting.branch [
      | then-m-waiting w ↦ rw (w.made-is, w.waiting-is) (tables.cycle_made f v c.loop-k-test.true w.if-m-waiting.true)
      | else-m-waiting w ↦ rw (w.made-is, w.waiting-is) (tables.room_left f v c.loop-k-test.true w.if-m-waiting.false)
    ]

-- the frame's cycle has a place in the table
cycle_low : (g : Over) (c : After-max-u g) → c.max-u.result < 4096
cycle_low g c =
    let o = opened g (goal.at.cycle_at-s-requires g c).Joined-m-waiting in
    omega (arith, c.max-u.ensures, c.from.ensures, o.latest_low c.from-c.result, o.made_low)

pub loop-k-init : goal.loop-k-init
loop-k-init g c = tables.first_turn _ _ _ _

pub overflow_sub-waiting : goal.overflow_sub-waiting
overflow_sub-waiting g c =
    tables.due_le_waiting c.requires c.loop-k.invariant c.loop-k-test.true c.if-m-waiting.true

pub cycle_at-s-requires : goal.cycle_at-s-requires
cycle_at-s-requires g c = omega (arith, cycle_low g (goal.at.cycle_at-s-requires g c).After-max-u)

pub bounds-due-u : goal.bounds-due-u
bounds-due-u g c = omega (arith, cycle_low g (goal.at.bounds-due-u g c).After-max-u)

pub overflow_add-due : goal.overflow_add-due
overflow_add-due g c =
    let p = goal.at.overflow_add-due g c in
    omega (arith, (opened g p.Joined-m-waiting).due_low (c.max-u.result + 1) (omega (arith, cycle_low g p.After-max-u)))

pub bounds-due-u-in-loop-k : goal.bounds-due-u-in-loop-k
bounds-due-u-in-loop-k g c = omega (arith, cycle_low g (goal.at.bounds-due-u-in-loop-k g c).After-max-u)

pub overflow_add-waiting : goal.overflow_add-waiting
overflow_add-waiting g c =
    let o = opened g (goal.at.overflow_add-waiting g c).Joined-m-waiting in
    omega (arith, o.waiting_low)

pub loop-k-preserved : goal.loop-k-preserved
loop-k-preserved g c =
    tables.next_turn c.requires c.loop-k.invariant c.loop-k-test.true (opened g (goal.at.loop-k-preserved g c).Joined-m-waiting)
    c.taken_at-i.ensures.0 c.from-c.ensures (omega (arith, c.cycle_at-s.ensures, c.max-u.ensures, c.from.ensures)) (sym c.cycle_at-s.ensures)

pub returns : goal.returns
returns g c =
    rw c.cycle_at.ensures
    (tables.passed c.requires c.loop-k.invariant (omega arith)
    (c.unwrap_or-last.ensures ∙ largest_from_max _ _ c.max.ensures.ran (YieldsList-from_copied (YieldsList-from_slice c.loop-k.latest cc))))
