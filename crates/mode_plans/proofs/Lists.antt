-- The list of an accepted ticket is one that `fill` plans.
-- Assumes nothing.
use Prim.Native.Nat.{ℕ, ◌≤◌}
use mathlib.Core.List.{List}
use native.Mathlib.Omega.{arith}
use lib.ListN.{length}
use Rattle.header.specs.declared.Header.{Header}
use Rattle.ticket.specs.Grounds.{Fits}
use Rattle.greedy_pass.specs.Pass.{Asked}

pub asked : (h : Header) (cards out : List ℕ) → Fits h cards → h.frames ≤ length out → Asked h.pool cards out
asked h cards out f l =
    record {
      pool = f.pool.0;
      few = omega (arith, f.frames, f.few);
      each_card = λ i k. omega (arith, f.each_card i k, f.card_range.1);
      room = omega (arith, f.frames);
    }
