-- A list of frames is given by the list of their cards: frame i, counted from 0, is on card `card_of cards i`.
-- Assumes nothing.
use Rattle.std.specs.Prelude.{ℕ, List, eqb, get_or}
use Rattle.counting.specs.Count.{how_many}

abbrev pub card_of : List ℕ → ℕ → ℕ
card_of cards i = get_or cards i 0

-- how many of the first n frames are on card c
abbrev pub load : List ℕ → ℕ → ℕ → ℕ
load cards n c = how_many n (λ i. eqb (card_of cards i) c)
