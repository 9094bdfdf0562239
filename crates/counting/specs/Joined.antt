-- A list with elements left out, and two lists joined into one (request 2026-04, "each ticket's own order is kept").
-- Assumes nothing.
use Rattle.std.specs.Prelude.{List, [], ◌∷◌}

-- `Sub part whole`: part is whole with some elements left out, the others in their order
pub data Sub {A : Type 0} : List A → List A → Type 0 where
  none : Sub [] []
  keep : {x : A} {part whole : List A} → Sub part whole → Sub (x ∷ part) (x ∷ whole)
  skip : {x : A} {part whole : List A} → Sub part whole → Sub part (x ∷ whole)

-- `Joined first second whole`: whole is made of the elements of the two lists, and each list's "own order is kept"
pub data Joined {A : Type 0} : List A → List A → List A → Type 0 where
  none : Joined [] [] []
  left : {x : A} {first second whole : List A} → Joined first second whole → Joined (x ∷ first) second (x ∷ whole)
  right : {x : A} {first second whole : List A} → Joined first second whole → Joined first (x ∷ second) (x ∷ whole)
