-- A loop that replaces the first elements of a list, one after the other, by f of them.
-- Assumes nothing.
use Prim.Native.Nat.{ℕ, zero, suc, ◌+◌, ◌<◌}
use mathlib.Core.Path.{◌≡◌, refl, ap, ◌∙◌}
use mathlib.Core.List.{List, [], ◌∷◌}
use native.Mathlib.Omega.{arith}
use native.Mathlib.Numerals.{add-one}
use lib.ListN.{length, get_or, set}
use Rattle.counting.specs.Lists.{on_first}

length_on_first : (f : ℕ → ℕ) (i : ℕ) (l : List ℕ) → length (on_first f i l) ≡ length l
length_on_first f zero l = refl
length_on_first f (suc i) [] = refl
length_on_first f (suc i) (x ∷ l) = ap suc (length_on_first f i l)

-- the element behind the first i is as it was
get_or_on_first : (f : ℕ → ℕ) (i : ℕ) (l : List ℕ) → get_or (on_first f i l) i 0 ≡ get_or l i 0
get_or_on_first f zero l = refl
get_or_on_first f (suc i) [] = refl
get_or_on_first f (suc i) (x ∷ l) = get_or_on_first f i l

set_on_first : (f : ℕ → ℕ) (i : ℕ) (l : List ℕ) → i < length l → set (on_first f i l) i (f (get_or l i 0)) ≡ on_first f (suc i) l
set_on_first f zero [] h = absurd (omega arith)
set_on_first f zero (x ∷ l) h = refl
set_on_first f (suc i) [] h = absurd (omega arith)
set_on_first f (suc i) (x ∷ l) h = ap (λ y. f x ∷ y) (set_on_first f i l (omega arith))

-- the loop has replaced the first i elements of `before`
pub record Replaced (f : ℕ → ℕ) (i : ℕ) (before now : List ℕ) : Type 0 where
  pub so_far : now ≡ on_first f i before

pub replaced_none : (f : ℕ → ℕ) (l : List ℕ) → Replaced f 0 l l
replaced_none f l = record { so_far = refl }

module _ {f : ℕ → ℕ} {i : ℕ} {before now : List ℕ} (v : Replaced f i before now) where
  pub replaced_length : length now ≡ length before
  replaced_length = ap length v.so_far ∙ length_on_first f i before

  pub next_as_before : get_or now i 0 ≡ get_or before i 0
  next_as_before = ap (λ l. get_or l i 0) v.so_far ∙ get_or_on_first f i before

  pub replaced_next : (x : ℕ) → i < length before → x ≡ f (get_or now i 0) → Replaced f (i + 1) before (set now i x)
  replaced_next x h e = record { so_far = rw (e, next_as_before, add-one, v.so_far) (set_on_first f i before h) }
