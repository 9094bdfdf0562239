-- The verdict's number tells which verdict it is.
-- Assumes nothing.
use Prim.Native.Nat.{ℕ, ◌≤◌}
use mathlib.Core.Path.{◌≡◌, refl, sym, ap, ◌∙◌}
use mathlib.Core.Logic.{◌≢◌}
use mathlib.Core.Bool.{cond}
use native.Mathlib.Omega.{arith}
use lib.Dec.{eqb}
use Rattle.schedule.specs.Verdict.{Fault, no_cycle, shared_card, overfull, valid, faulty}
use Rattle.schedule.specs.Verdict as theory
use Rattle.checker.specs.Check.{at_fault, answer_of}
use Rattle.checker.specs.Numbers.{Numbers, valid_number, fault_number, fault_at, numbers_of}
use Rattle.checker.specs.declared.Verdict.{Verdict}
use Rattle.checker.specs.declared.Verdict.TheVariants.{Valid, NoCycle, SharedCard, Overfull}
use Rattle.std.specs.Prelude.{Result, Ok, Err}

-- the theory's verdict, as the answer of a call
abbrev pub to_answer : theory.Verdict → Result Verdict ℕ
to_answer v = Ok (answer_of v)

abbrev pub verdict_number : Result Verdict ℕ → ℕ
verdict_number r = (numbers_of r).verdict

abbrev pub position_number : Result Verdict ℕ → ℕ
position_number r = (numbers_of r).position.0

abbrev pub peak_number : Result Verdict ℕ → ℕ
peak_number r = (numbers_of r).peak

-- only a valid plan has a peak
pub no_peak : (r : Result Verdict ℕ) → verdict_number r ≢ valid_number → peak_number r ≡ 0
no_peak (Ok (Valid T p)) n = absurd (n refl)
no_peak (Ok (NoCycle p)) n = refl
no_peak (Ok (SharedCard p)) n = refl
no_peak (Ok (Overfull p)) n = refl
no_peak (Err k) n = refl

-- valid is 1 and a refusal has 0, so that neither is a fault
pub from_two : (f : Fault) → 2 ≤ fault_number f
from_two no_cycle = omega arith
from_two shared_card = omega arith
from_two overfull = omega arith

-- each fault has a number of its own
abbrev fault_with : ℕ → Fault
fault_with n = cond (eqb n (fault_number no_cycle)) no_cycle (cond (eqb n (fault_number shared_card)) shared_card overfull)

its_own : (f : Fault) → fault_with (fault_number f) ≡ f
its_own no_cycle = refl
its_own shared_card = refl
its_own overfull = refl

same_fault : (f g : Fault) → fault_number f ≡ fault_number g → f ≡ g
same_fault f g e = sym (its_own f) ∙ ap fault_with e ∙ its_own g

-- the numbers of a fault, whichever it is
fault_numbers : (i : ℕ) (f : Fault) → numbers_of (Ok (at_fault i f)) ≡ fault_at (record { 0 = i }) f
fault_numbers i no_cycle = refl
fault_numbers i shared_card = refl
fault_numbers i overfull = refl

pub was_valid : (v : theory.Verdict) → verdict_number (to_answer v) ≡ valid_number → (T : ℕ) × (p : ℕ) × (v ≡ valid T p)
was_valid (valid T p) e = (T, p, refl)
was_valid (faulty i f) e = absurd (omega (arith, ap (λ (x : Numbers). x.verdict) (fault_numbers i f), e, from_two f))

pub was_fault : (v : theory.Verdict) (f : Fault) → verdict_number (to_answer v) ≡ fault_number f → v ≡ faulty (position_number (to_answer v)) f
was_fault (valid T p) f e = absurd (omega (arith, e, from_two f))
was_fault (faulty i g) f e =
    let n = fault_numbers i g in
    ap (faulty i) (same_fault g f (sym (ap (λ (x : Numbers). x.verdict) n) ∙ e)) ∙ ap (λ (x : Numbers). faulty x.position.0 f) (sym n)
