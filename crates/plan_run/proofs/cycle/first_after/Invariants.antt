-- What the loop of `cycle::first_after` keeps: the smallest number so far, of cycles that are before 65,536.
use Prim.Native.Nat.{ℕ, ◌<◌}
use mathlib.Core.Path.{◌≡◌}
use lib.ListN.{take, get_or}
use Rattle.std.specs.List.{fold}
use Rattle.plan_run.proofs.Cycles.{lower}
use Rattle.plan_run.proofs.cycle.first_after.Given as goal

abbrev pub invariant-loop-c : goal.invariant-loop-c
invariant-loop-c l =
    (l.next ≡ fold (lower l.t.0 65536) 65536 (take l.c-index l.cycles)) × ((i : ℕ) → i < l.c-index → get_or l.cycles i 0 < 65536)
