-- Laws of a list with elements left out, and of two lists joined into one.
-- Assumes nothing.
use Prim.Native.Nat.{◌+◌}
use mathlib.Core.Path.{◌≡◌, refl}
use mathlib.Core.List.{List, [], ◌∷◌, ◌++◌, append-nil, map, reverse, reverse-cons}
use native.Mathlib.Omega.{arith}
use lib.ListN.{length}
use Rattle.counting.specs.Joined.{Sub, none, keep, skip, Joined, left, right}

module _ {A : Type 0} where
  -- nothing left out
  pub sub_all : (l : List A) → Sub l l
  sub_all [] = none
  sub_all (x ∷ l) = keep (sub_all l)

  pub sub_append : {part whole part' whole' : List A} → Sub part whole → Sub part' whole' → Sub (part ++ part') (whole ++ whole')
  sub_append none r = r
  sub_append (keep s) r = keep (sub_append s r)
  sub_append (skip s) r = skip (sub_append s r)

  -- one element left out
  pub sub_one : (l r : List A) (x : A) → Sub (l ++ r) (l ++ (x ∷ r))
  sub_one l r x = sub_append (sub_all l) (skip (sub_all r))

  pub sub_reverse : {part whole : List A} → Sub part whole → Sub (reverse part) (reverse whole)
  sub_reverse none = none
  sub_reverse (keep {x = x} {part = part} {whole = whole} s) =
      rw (reverse-cons x part, reverse-cons x whole) (sub_append (sub_reverse s) (keep none))
  sub_reverse (skip {x = x} {part = part} {whole = whole} s) =
      rw (reverse-cons x whole, ← (append-nil (reverse part))) (sub_append (sub_reverse s) (skip none))

  pub joined_length : {first second whole : List A} → Joined first second whole → length whole ≡ length first + length second
  joined_length none = refl
  joined_length (left j) = omega (arith, joined_length j)
  joined_length (right j) = omega (arith, joined_length j)

  -- each of the two lists is the joined one with the other's elements left out
  pub joined_first : {first second whole : List A} → Joined first second whole → Sub first whole
  joined_first none = none
  joined_first (left j) = keep (joined_first j)
  joined_first (right j) = skip (joined_first j)

  pub joined_second : {first second whole : List A} → Joined first second whole → Sub second whole
  joined_second none = none
  joined_second (left j) = skip (joined_second j)
  joined_second (right j) = keep (joined_second j)

-- the same of the lists that a function is mapped over
module _ {A B : Type 0} (f : A → B) where
  pub sub_map : {part whole : List A} → Sub part whole → Sub (map f part) (map f whole)
  sub_map none = none
  sub_map (keep s) = keep (sub_map s)
  sub_map (skip s) = skip (sub_map s)

  pub joined_map : {first second whole : List A} → Joined first second whole → Joined (map f first) (map f second) (map f whole)
  joined_map none = none
  joined_map (left j) = left (joined_map j)
  joined_map (right j) = right (joined_map j)
