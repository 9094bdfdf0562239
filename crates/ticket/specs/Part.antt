-- Parts of lent memory: a part of a slice is the lender's own bytes, so a contract that hands one back says where it stands.
-- Assumes nothing.
use Rattle.std.specs.Prelude.{ℕ, ◌+◌}

-- Where byte i of a slice stands whose first byte stands at `start`, a block of memory and a place in it.
abbrev pub address : ℕ × ℕ → ℕ → ℕ × ℕ
address start i = (start.0, start.1 + i)
