-- What the check leaves to say of `start_list`.
use Prim.Native.Nat.{ℕ}
use mathlib.Core.Path.{◌≡◌}
use mathlib.Core.List.{List, ◌++◌}
use native.Mathlib.Omega.{arith}
use lib.ListN.{length, take, drop}
use Rattle.dock_start.proofs.Starting.{too_short, started}
use Rattle.dock_start.proofs.start_list.Goals as goal

pub returns-then-memory-n : goal.returns-then-memory-n
returns-then-memory-n c =
    let clauses = too_short _ _ _ c.requires (omega (arith, c.if-memory-n.true, c.from-n.ensures)) in
    record {
      answer = clauses.0;
      memory = clauses.1;
    }

pub returns : goal.returns
returns c =
    let cards : List ℕ = take c.args.h.frames c.args.card.now in
    let copied : c.copy_from_slice.new.self ++ drop c.from-n.result c.args.memory.now ≡ cards ++ drop (length cards) c.args.memory.now =
    rw (c.copy_from_slice.ensures.after, c.from-n.ensures, c.requires.frames) in
    let clauses = started _ _ _ c.requires (omega (arith, c.if-memory-n.false, c.from-n.ensures)) _ c.empty.ensures _ copied in
    record {
      answer = clauses.0;
      memory = clauses.1;
    }
