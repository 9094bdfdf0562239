-- The numbers of each case of the hub's answer (request 2026-06).
-- Assumes nothing.
use Rattle.std.specs.Prelude.{ℕ}
use Rattle.std.specs.Prelude.{Result, Ok, Err}

-- The refusal's number, 0 for none; and how many cards were given, 0 beside a refusal.
pub record Numbers : Type 0 where
  pub refusal : ℕ
  pub frames : ℕ

abbrev pub numbers_of : Result ℕ ℕ → Numbers
numbers_of (Ok n) = record { refusal = 0; frames = n }
-- "Beside a refusal's number, other numbers of the answer are 0"
numbers_of (Err k) = record { refusal = k; frames = 0 }
