-- A verdict, from the first fault that is found, T and the peak.
-- Assumes nothing.
use Rattle.std.specs.Prelude.{ℕ, Option, None, Some}
use Rattle.plan_faults.specs.declared.Found.{Found}
use Rattle.plan_faults.specs.declared.Found.TheVariants.{CycleMissing, CardShared, PoolOverfull}
use Rattle.checker.specs.declared.Verdict.{Verdict}
use Rattle.checker.specs.declared.Verdict.TheVariants.{Valid, NoCycle, SharedCard, Overfull}

abbrev pub completed : Option Found → ℕ → ℕ → Verdict
completed None T peak = Valid (record { 0 = T }) peak
completed (Some (CycleMissing p)) T peak = NoCycle p
completed (Some (CardShared p)) T peak = SharedCard p
completed (Some (PoolOverfull p)) T peak = Overfull p
