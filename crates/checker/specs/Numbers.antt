-- The numbers of each case of a verdict (document 01, "The checker and the saver" and "Grounds for turning a ticket or call down").
-- Assumes nothing.
use Rattle.std.specs.Prelude.{ℕ}
use Rattle.schedule.specs.Verdict.{Fault, no_cycle, shared_card, overfull}
use Rattle.counting.specs.declared.Cycle.{Cycle}
use Rattle.counting.specs.declared.Position.{Position}
use Rattle.std.specs.Prelude.{Result, Ok, Err}
use Rattle.checker.specs.declared.Verdict.{Verdict}
use Rattle.checker.specs.declared.Verdict.TheVariants.{Valid, NoCycle, SharedCard, Overfull}

-- The refusal's number, 0 for none; the verdict's, 0 beside a refusal; the position at fault, T and the peak, each 0 where there is none.
pub record Numbers : Type 0 where
  pub refusal : ℕ
  pub verdict : ℕ
  pub position : Position
  pub cycles : Cycle
  pub peak : ℕ

-- The verdict's number: valid, and the faults in document 01's order.
abbrev pub valid_number : ℕ
valid_number = 1

abbrev pub fault_number : Fault → ℕ
fault_number no_cycle = 2
fault_number shared_card = 3
fault_number overfull = 4

-- "valid with T and .. the peak"; it names no position
abbrev pub valid_with : Cycle → ℕ → Numbers
valid_with T peak = record { refusal = 0; verdict = valid_number; position = record { 0 = 0 }; cycles = T; peak = peak }

-- "With a fault, T and peak are 0."
abbrev pub fault_at : Position → Fault → Numbers
fault_at p f = record { refusal = 0; verdict = fault_number f; position = p; cycles = record { 0 = 0 }; peak = 0 }

-- "Beside a refusal's number, other numbers of the answer are 0"
abbrev pub refused_by : ℕ → Numbers
refused_by k = record { refusal = k; verdict = 0; position = record { 0 = 0 }; cycles = record { 0 = 0 }; peak = 0 }

abbrev pub numbers_of : Result Verdict ℕ → Numbers
numbers_of (Ok (Valid T peak)) = valid_with T peak
numbers_of (Ok (NoCycle p)) = fault_at p no_cycle
numbers_of (Ok (SharedCard p)) = fault_at p shared_card
numbers_of (Ok (Overfull p)) = fault_at p overfull
numbers_of (Err k) = refused_by k
