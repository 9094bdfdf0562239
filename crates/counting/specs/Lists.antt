-- A list taken from its back or from its front, and a function on the first elements of a list.
-- Assumes nothing.
use Rattle.std.specs.Prelude.{ℕ, suc, ◌-◌, Bool, true, false, List, ◌++◌, map, reverse, take, drop}

-- a list taken from its back, or from its front
abbrev pub turned : Bool → List ℕ → List ℕ
turned true l = reverse l
turned false l = l

-- where the element stands that is taken k-th
abbrev pub taken_at : Bool → ℕ → ℕ → ℕ
taken_at true n k = n - suc k
taken_at false n k = k

-- f of the first n elements; the others as they are
abbrev pub on_first : (ℕ → ℕ) → ℕ → List ℕ → List ℕ
on_first f n l = map f (take n l) ++ drop n l
