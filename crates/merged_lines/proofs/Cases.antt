-- Two lists of three frames merged, and a list merged with itself, computed.
-- Assumes nothing.
use mathlib.Core.Path.{◌≡◌, refl}
use mathlib.Core.List.{List, [], ◌∷◌, map}
use Rattle.merged_lines.specs.Merge.{Frame, frames, merge, first_place, second_place}

abbrev first : List Frame
first = frames (3 ∷ 4 ∷ 2 ∷ []) (5 ∷ 7 ∷ 7 ∷ [])

abbrev second : List Frame
second = frames (8 ∷ 9 ∷ 8 ∷ []) (5 ∷ 6 ∷ 7 ∷ [])

-- in seconds 5 and 7 there are frames of both lists: those of the first before those of the second
pub merge_holds : merge first second ≡ frames (3 ∷ 8 ∷ 9 ∷ 4 ∷ 2 ∷ 8 ∷ []) (5 ∷ 5 ∷ 6 ∷ 7 ∷ 7 ∷ 7 ∷ [])
unfolding merge
merge_holds = refl

pub first_places_hold : map (first_place first second) (0 ∷ 1 ∷ 2 ∷ []) ≡ 0 ∷ 3 ∷ 4 ∷ []
first_places_hold = refl

pub second_places_hold : map (second_place first second) (0 ∷ 1 ∷ 2 ∷ []) ≡ 1 ∷ 2 ∷ 5 ∷ []
second_places_hold = refl

-- merged with itself a list has its frames of one second, in their order, and then the same frames again
pub twice_holds : merge first first ≡ frames (3 ∷ 3 ∷ 4 ∷ 2 ∷ 4 ∷ 2 ∷ []) (5 ∷ 5 ∷ 7 ∷ 7 ∷ 7 ∷ 7 ∷ [])
unfolding merge
twice_holds = refl
