-- What the check leaves to say of `CardAlone::second`.
use mathlib.Core.Path.{refl}
use Rattle.text.specs.Wide.{wide_number}
use Rattle.frame_lines.proofs.passing.CardAloneSecond.second.Goals as goal

pub returns : goal.returns
unfolding wide_number
returns c = refl
