-- What the loop of `put_merged` keeps.
use Prim.Native.Nat.{◌+◌, ◌*◌}
use mathlib.Core.Path.{◌≡◌}
use Rattle.merged_lines.proofs.Offsets.{Turn}
use Rattle.merged_lines.proofs.put_merged.Given as goal

abbrev pub invariant-loop-line : goal.invariant-loop-line
invariant-loop-line l =
    Turn l.a l.b l.n l.m l.initial.out l.at l.out l.first l.second l.line × (l.place ≡ l.at + 11 * l.line)
