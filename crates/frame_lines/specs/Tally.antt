-- How many frames each card has.
-- Assumes nothing.
use Rattle.std.specs.Prelude.{ℕ, List}
use Rattle.counting.specs.Count.{tabulate}
use Rattle.counting.specs.Frames.{load}
use Rattle.header.specs.Limits.{max_cards}

-- for each of the 32 cards, how many of the first n frames it has
abbrev pub counts_up_to : List ℕ → ℕ → List ℕ
counts_up_to cards n = tabulate max_cards (load cards n)
