-- Looking for m cycles that count, in their order.
-- Assumes nothing.
use Rattle.std.specs.Prelude.{ℕ, ◌≤◌, ◌<◌, ◌≡◌, Bool, List, length}
use Rattle.pool_counts.specs.Backlog.{counts, count_first}

-- a save or a read, and the cycle of the frame beside which others count
pub record Rule : Type 0 where
  pub save : Bool
  pub own : ℕ

-- what a test answers of a cycle is whether a frame with it counts
abbrev pub Says : (ℕ → Bool → Type 0) → Rule → Type 0
Says answers rule = (c : ℕ) (r : Bool) → answers c r → r ≡ counts rule.save rule.own c

-- k cycles are looked at, `count` of them count, and no fewer of them had m
pub record Looking (save : Bool) (own : ℕ) (others : List ℕ) (m k count : ℕ) : Type 0 where
  pub inside : k ≤ length others
  pub so_far : count ≡ count_first save own others k
  pub short : (j : ℕ) → j < k → count_first save own others j < m
