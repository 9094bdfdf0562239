-- The plan of a list in each mode (document 01, "Rules from document 000").
-- Assumes nothing.
use Rattle.std.specs.Prelude.{ℕ, cond, List, eqb}
use Rattle.schedule.specs.Greedy.{Plan, save_and_keep, greedy_writing, lazy_prefetching}
use Rattle.header.specs.Limits.{mode_read, mode_save}

-- "Modes: 00 read; 01 save; 02 save and keep."
abbrev pub plan_for : ℕ → ℕ → List ℕ → Plan
plan_for mode m cards = cond (eqb mode mode_read) (lazy_prefetching m cards) (cond (eqb mode mode_save) (greedy_writing m cards) (save_and_keep m cards))
