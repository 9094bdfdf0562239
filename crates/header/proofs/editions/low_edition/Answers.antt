-- What the check leaves to say of `editions::low_edition`.
use native.Mathlib.Omega.{arith}
use Rattle.header.proofs.Widths.{low_bytes, low_read, none_low, short_none}
use Rattle.header.proofs.editions.low_edition.Goals as goal

pub returns-then-t-lt2 : goal.returns-then-t-lt2
returns-then-t-lt2 c = short_none _ (omega arith)

pub returns-then-t-ne48 : goal.returns-then-t-ne48
returns-then-t-ne48 c = none_low _ (λ l. omega (arith, (low_bytes _ l).0))

pub returns-then-low-lt48 : goal.returns-then-low-lt48
returns-then-low-lt48 c = none_low _ (λ l. omega (arith, (low_bytes _ l).1))

pub returns-then-low-gt57 : goal.returns-then-low-gt57
returns-then-low-gt57 c = none_low _ (λ l. omega (arith, (low_bytes _ l).2))

pub returns : goal.returns
returns c = low_read _ (omega arith) (omega arith) (omega arith)
