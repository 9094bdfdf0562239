-- The loads of the cards, lists that use their cards evenly, and the schedule by rank (request 2026-06, which speaks of "the load of the fullest card").
--
-- Everything is said of D cards, numbered from 0. With no frames every load is 0.
-- Assumes nothing.
use Rattle.std.specs.Prelude.{ℕ, suc, ◌+◌, ◌≤◌, ◌<◌, List, length}
use Rattle.counting.specs.Count.{tabulate, largest}
use Rattle.counting.specs.Frames.{card_of, load}

-- the load of the fullest card: of the D cards, the most frames that are on one of them
abbrev pub fullest : ℕ → List ℕ → ℕ
fullest D cards = largest (tabulate D (load cards (length cards)))

-- In every first part of the list, the loads of any two of the D cards differ by at most S.
abbrev pub Even : ℕ → ℕ → List ℕ → Type 0
Even D S cards = (n c d : ℕ) → n ≤ length cards → c < D → d < D → load cards n d ≤ load cards n c + S

-- The schedule by rank: the first frame of each card in cycle 1, its second in cycle 2, and so on. Frame i has the cycle
abbrev pub rank : List ℕ → ℕ → ℕ
rank cards i = load cards (suc i) (card_of cards i)

abbrev pub by_rank : List ℕ → List ℕ
by_rank cards = tabulate (length cards) (rank cards)
