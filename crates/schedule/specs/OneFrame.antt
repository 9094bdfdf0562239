-- How far one frame shifts a number of cycles (request 2026-08).
-- Assumes nothing.
use Rattle.std.specs.Prelude.{ℕ, suc, ◌≤◌}

-- "changing one frame's card moves the fewest cycles by at most one": of T and U neither is above the other by more than one.
abbrev pub AtMostOneApart : ℕ → ℕ → Type 0
AtMostOneApart T U = (T ≤ suc U) × (U ≤ suc T)

-- "Adding one frame anywhere adds none or one": U is T or one more.
abbrev pub NoneOrOneMore : ℕ → ℕ → Type 0
NoneOrOneMore T U = (T ≤ U) × (U ≤ suc T)
