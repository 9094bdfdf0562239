-- The numbers of each case of a run's answer (document 01, "The dock" and "Grounds for turning a ticket or call down").
-- Assumes nothing.
use Rattle.std.specs.Prelude.{ℕ, Bool, true, false, Option, None, Some, Result, Ok, Err}
use Rattle.counting.specs.declared.Cycle.{Cycle}
use Rattle.plan_run.specs.declared.Run.{Run}

-- The refusal's number, 0 for none; whether the run broke off, and whether all frames were handed over; how many were, the cycles ended, the
-- cycles needed, 0 where not all were handed over, and the peak.
pub record Numbers : Type 0 where
  pub refusal : ℕ
  pub broken : Bool
  pub complete : Bool
  pub delivered : ℕ
  pub ended : Cycle
  pub needed : Cycle
  pub peak : ℕ

-- A run has cycles needed just where all frames were handed over.
abbrev pub complete_in : Option Cycle → Bool
complete_in (Some n) = true
complete_in None = false

abbrev pub needed_in : Option Cycle → Cycle
needed_in (Some n) = n
needed_in None = record { 0 = 0 }

abbrev pub numbers_of : Result Run ℕ → Numbers
numbers_of (Ok run) =
    record {
      refusal = 0;
      broken = run.broken;
      complete = complete_in run.needed;
      delivered = run.delivered;
      ended = run.ended;
      needed = needed_in run.needed;
      peak = run.peak;
    }
-- "Beside a refusal's number, other numbers of the answer are 0"
numbers_of (Err k) =
    record { refusal = k; broken = false; complete = false; delivered = 0; ended = record { 0 = 0 }; needed = record { 0 = 0 }; peak = 0 }
