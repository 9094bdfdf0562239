-- What the check leaves to say of `DigitTexts::new`.
use mathlib.Core.Path.{refl}
use Rattle.text.specs.Hex.{digit_of, digit_texts}
use Rattle.text.proofs.write.DigitTexts.new.Goals as goal

pub invariant_of-result : goal.invariant_of-result
unfolding digit_texts digit_of
invariant_of-result c = record { of_each_value = refl }
