-- The eight fixed patterns of the hub, and what it means that one names every card (request 2026-06, "A field hub with eight cards").
-- Assumes nothing.
use Rattle.std.specs.Prelude.{ℕ, ◌%◌, ◌<◌, ◌≡◌, List, [], ◌∷◌, eqb, get_or}
use Rattle.counting.specs.Count.{how_many}

-- "eight cards": also how many places a pattern has, and how many patterns there are
abbrev pub hub_size : ℕ
hub_size = 8

-- "The eight patterns are fixed: 01234567, 03614725, 05274163, 07654321, 45670123, 47250361, 41630527, 43210765"
abbrev pub patterns : List (List ℕ)
patterns =
    (0 ∷ 1 ∷ 2 ∷ 3 ∷ 4 ∷ 5 ∷ 6 ∷ 7 ∷ [])
    ∷ (0 ∷ 3 ∷ 6 ∷ 1 ∷ 4 ∷ 7 ∷ 2 ∷ 5 ∷ [])
    ∷ (0 ∷ 5 ∷ 2 ∷ 7 ∷ 4 ∷ 1 ∷ 6 ∷ 3 ∷ [])
    ∷ (0 ∷ 7 ∷ 6 ∷ 5 ∷ 4 ∷ 3 ∷ 2 ∷ 1 ∷ [])
    ∷ (4 ∷ 5 ∷ 6 ∷ 7 ∷ 0 ∷ 1 ∷ 2 ∷ 3 ∷ [])
    ∷ (4 ∷ 7 ∷ 2 ∷ 5 ∷ 0 ∷ 3 ∷ 6 ∷ 1 ∷ [])
    ∷ (4 ∷ 1 ∷ 6 ∷ 3 ∷ 0 ∷ 5 ∷ 2 ∷ 7 ∷ [])
    ∷ (4 ∷ 3 ∷ 2 ∷ 1 ∷ 0 ∷ 7 ∷ 6 ∷ 5 ∷ [])
    ∷ []

-- the cards at the places of pattern p, and the one at place k
abbrev pub pattern_row : ℕ → List ℕ
pattern_row p = get_or patterns p []

abbrev pub pattern_card : ℕ → ℕ → ℕ
pattern_card p k = get_or (pattern_row p) k 0

-- "each is proved to name every card": a pattern, by the card at each place, has only the hub's cards, and each of them at one place.
pub record NamesEvery (card : ℕ → ℕ) : Type 0 where
  pub inside_hub : (k : ℕ) → k < hub_size → card k < hub_size
  pub each_once : (c : ℕ) → c < hub_size → how_many hub_size (λ k. eqb (card k) c) ≡ 1

-- how many of a camera's first n frames are on card c, by the pattern that it has
abbrev pub visits : (ℕ → ℕ) → ℕ → ℕ → ℕ
visits card c n = how_many n (λ k. eqb (card (k % hub_size)) c)
