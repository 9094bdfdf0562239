-- The numbers of each case of the answer to a join (document 01, "Grounds for turning a ticket or call down", and request 2026-04).
-- Assumes nothing.
use Rattle.std.specs.Prelude.{ℕ}
use Rattle.std.specs.Prelude.{Result, Ok, Err}

-- The refusal's number, 0 for none; and the bytes of the joined ticket, 0 beside a refusal.
pub record Numbers : Type 0 where
  pub refusal : ℕ
  pub bytes : ℕ

abbrev pub numbers_of : Result ℕ ℕ → Numbers
numbers_of (Ok n) = record { refusal = 0; bytes = n }
-- "Beside a refusal's number, other numbers of the answer are 0"
numbers_of (Err k) = record { refusal = k; bytes = 0 }
