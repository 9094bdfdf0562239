-- What the check leaves to say of `editions::known`.
use mathlib.Core.Path.{sym}
use mathlib.Core.Logic.{inl}
use native.Mathlib.Omega.{arith}
use Rattle.header.proofs.Widths.{known_is, other_known}
use Rattle.header.proofs.editions.known.Goals as goal

pub returns-then-edition-eq-EDITION_1 : goal.returns-then-edition-eq-EDITION_1
returns-then-edition-eq-EDITION_1 c = sym (known_is _ (inl (omega arith)))

pub returns : goal.returns
returns c = other_known _ (λ e. omega arith)
