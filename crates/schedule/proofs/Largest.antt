-- An iterator's `max`, or 0 where it has no items, is the largest number of the list that it yields.
-- Assumes nothing.
use Rattle.std.proofs.Common.{ℕ, List, [], ◌∷◌, Option, ◌≡◌, refl, sym, ap, ◌∙◌, max, arith}
use Rattle.std.specs.Option.{unwrap_or}
use Rattle.std.specs.List.{fold, reduce}
use Rattle.std.specs.Ordering.{nat_cmp, max_by_ordering}
use Rattle.std.specs.Iterator.{PicksByCmp}
use Rattle.std.proofs.lemmas.Iterator.{YieldsList}
use Rattle.std.proofs.lemmas.Iterator.Adapters.{option_map_id}
use Rattle.std.proofs.lemmas.Iterator.Consumers.{max_from_yields_List}
use Rattle.counting.specs.Count.{largest}

fold_max : (top : ℕ) (l : List ℕ) → fold max top l ≡ max top (largest l)
fold_max top [] = omega arith
fold_max top (x ∷ l) = omega (arith, fold_max (max top x) l)

reduce_max : (l : List ℕ) → unwrap_or (reduce max l) 0 ≡ largest l
reduce_max [] = refl
reduce_max (x ∷ l) = fold_max x l

pub largest_from_max :
    {S : Type 0} {steps : S → Option ℕ → S → Type 0} {l : List ℕ} (s : S) (top : Option ℕ) → PicksByCmp steps max_by_ordering nat_cmp s top
    → YieldsList steps (λ x. x) s l → unwrap_or top 0 ≡ largest l
largest_from_max {l = l} s top picked yields =
    ap (λ o. unwrap_or o 0) (sym (option_map_id top) ∙ max_from_yields_List s top picked yields) ∙ reduce_max l
