-- A text in upper case: what all ways of typing its digits have in common. Only statements speak of it; no call reads or writes it.
-- Assumes nothing.
use Rattle.std.specs.Prelude.{ℕ, ◌-◌, ◌&&◌, cond, List, map, leb}

-- a to f become A to F; every other byte stays
unfoldable pub upper : ℕ → ℕ
upper b = cond (leb 97 b && leb b 102) (b - 32) b

abbrev pub upper_case : List ℕ → List ℕ
upper_case t = map upper t
