-- The numbers of each case of the planner's answer (document 01, "Grounds for turning a ticket or call down").
-- Assumes nothing.
use Rattle.std.specs.Prelude.{ℕ}
use Rattle.counting.specs.declared.Cycle.{Cycle}
use Rattle.std.specs.Prelude.{Result, Ok, Err}

-- The refusal's number, 0 for none; and T, 0 beside a refusal.
pub record Numbers : Type 0 where
  pub refusal : ℕ
  pub cycles : Cycle

abbrev pub numbers_of : Result Cycle ℕ → Numbers
numbers_of (Ok T) = record { refusal = 0; cycles = T }
-- "Beside a refusal's number, other numbers of the answer are 0"
numbers_of (Err k) = record { refusal = k; cycles = record { 0 = 0 } }
