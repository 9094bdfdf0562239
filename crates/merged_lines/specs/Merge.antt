-- Two lists of frames merged by their capture seconds (request 2026-04, "One showing from two tickets").
--
-- Edge cases: merged with no frames a list stays as it is; merged with itself it has the frames of each second in their order, and then the
-- same frames again.
-- Assumes nothing.
use Rattle.std.specs.Prelude.{ℕ, suc, ◌+◌, ◌≤◌, ◌<◌, cond, List, [], ◌∷◌, leb, ltb, length, get_or}
use Rattle.counting.specs.Count.{how_many}

-- A frame as an edition 02 line says it: "the card (2) and the capture second (8)".
pub record Frame : Type 0 where
  pub second : ℕ
  pub card : ℕ

-- the frames of a list of cards and the list of their seconds
abbrev pub frames : List ℕ → List ℕ → List Frame
frames [] seconds = []
frames (c ∷ cards) [] = []
frames (c ∷ cards) (s ∷ seconds) = record { second = s; card = c } ∷ frames cards seconds

-- Frame x of the first list among those of the second: it goes before the first of them that is not earlier than it. `rest` gives what follows
-- x, with the frames of the second list that are left.
abbrev pub before : Frame → (List Frame → List Frame) → List Frame → List Frame
before x rest [] = x ∷ rest []
before x rest (y ∷ b) = cond (leb x.second y.second) (x ∷ rest (y ∷ b)) (y ∷ before x rest b)

-- "sorted by second; for equal seconds the first ticket's frames go before the second's, and each ticket's own order is kept"
unfoldable pub merge : List Frame → List Frame → List Frame
merge [] b = b
merge (x ∷ a) b = before x (merge a) b

-- frame i of a list, and its second; both numbers are 0 past the last frame
abbrev pub frame_at : List Frame → ℕ → Frame
frame_at l i = get_or l i (record { second = 0; card = 0 })

abbrev pub second_in : List Frame → ℕ → ℕ
second_in l i = (frame_at l i).second

-- "Seconds may repeat but not fall."
abbrev pub NotFalling : List Frame → Type 0
NotFalling l = (i : ℕ) → suc i < length l → second_in l i ≤ second_in l (suc i)

-- Where the frames of two lists stand when they are merged: frame i of the first after the frames of the second that have a lower second,
-- frame j of the second after those of the first that have the same second or a lower one.
abbrev pub first_place : List Frame → List Frame → ℕ → ℕ
first_place a b i = i + how_many (length b) (λ j. ltb (second_in b j) (second_in a i))

abbrev pub second_place : List Frame → List Frame → ℕ → ℕ
second_place a b j = j + how_many (length a) (λ i. leb (second_in a i) (second_in b j))
