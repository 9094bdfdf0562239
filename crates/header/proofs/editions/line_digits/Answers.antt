-- What the check leaves to say of `editions::line_digits`.
use native.Mathlib.Omega.{arith}
use Rattle.header.proofs.Widths.{with_second, card_alone}
use Rattle.header.proofs.editions.line_digits.Goals as goal

pub returns-then-edition-eq-EDITION_2 : goal.returns-then-edition-eq-EDITION_2
returns-then-edition-eq-EDITION_2 c = with_second _ (omega arith)

pub returns : goal.returns
returns c = card_alone _ (λ e. omega arith)
