-- What the check leaves to say of `DigitTexts::digit`.
use Rattle.text.proofs.Puts.{text_of}
use Rattle.text.proofs.write.DigitTexts.digit.Goals as goal

pub returns : goal.returns
returns c = rw c.from.ensures (text_of _ c.args.self.now.of_each_value _ c.requires)
