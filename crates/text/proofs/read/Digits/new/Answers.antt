-- What the check leaves to say of `Digits::new`.
use mathlib.Core.Path.{refl}
use Rattle.text.specs.Text.{digit_values, digit}
use Rattle.text.proofs.read.Digits.new.Goals as goal

pub invariant_of-result : goal.invariant_of-result
unfolding digit_values digit
invariant_of-result c = record { of_each_byte = refl }
