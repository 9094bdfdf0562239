-- A plan in the making, as it looks from its end.
-- Assumes nothing.
use Rattle.std.specs.Prelude.{ℕ, cond, leb}

-- The cycle c of a frame as greedy_writing shows it when t cycles are made: 0 while the frame waits.
abbrev pub as_of : ℕ → ℕ → ℕ
as_of t c = cond (leb c t) c 0
