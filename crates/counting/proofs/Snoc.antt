-- A list with one element more at its end: its length, a bound on its elements, and tests counted at its places.
-- Assumes nothing.
use Prim.Native.Nat.{ℕ, suc, ◌+◌, ◌<◌}
use mathlib.Core.Path.{◌≡◌, refl, ap, sym}
use mathlib.Core.Bool.{Bool, true, false, cond, not}
use mathlib.Core.List.{List, [], ◌∷◌, ◌++◌, map, append-nil, map-append}
use native.Mathlib.Omega.{arith}
use native.Mathlib.Decide.{dec_lt}
use lib.ListN.{length, get_or, length-append, get_or-append}
use lib.Seq.{get_or_at}
use Rattle.counting.specs.Count.{bit, how_many}
use Rattle.counting.proofs.Sums.{sum_cong}

pub length_snoc : (l : List ℕ) (x : ℕ) → length (l ++ (x ∷ [])) ≡ suc (length l)
length_snoc l x = omega (arith, length-append l (x ∷ []))

pub bound_snoc : (l : List ℕ) (x b : ℕ) → ((i : ℕ) → i < length l → get_or l i 0 < b) → x < b → (i : ℕ) → i < length (l ++ (x ∷ []))
    → get_or (l ++ (x ∷ [])) i 0 < b
bound_snoc l x b h g i k =
    elim (dec_lt i (length l)) [
      | yes m ↦ rw (get_or-append l (x ∷ []) 0 i m) (h i m)
      | no m ↦ (let e : length l ≡ i = omega (arith, length_snoc l x) in rw (get_or_at l x [] 0 i e) g)
    ]

pub count_snoc : (test : ℕ → Bool) (l : List ℕ) (x : ℕ)
    → how_many (length (l ++ (x ∷ []))) (λ j. test (get_or (l ++ (x ∷ [])) j 0)) ≡ how_many (length l) (λ j. test (get_or l j 0)) + bit (test x)
count_snoc test l x =
    rw (length_snoc l x, get_or_at l x [] 0 (length l) refl)
    (ap (λ s. s + bit (test x))
    (sum_cong (length l) (λ j. bit (test (get_or (l ++ (x ∷ [])) j 0))) (λ j. bit (test (get_or l j 0))) (λ j k. rw (get_or-append l (x ∷ []) 0 j k))))

-- `Tabled c g l`: the list c has, at the place of each element x of l, the number g x
abbrev pub Tabled : List ℕ → (ℕ → ℕ) → List ℕ → Type 0
Tabled c g l = (i : ℕ) → i < length l → get_or c i 0 ≡ g (get_or l i 0)

pub tabled_front : (c : List ℕ) (g : ℕ → ℕ) (l : List ℕ) (x : ℕ) → Tabled c g (l ++ (x ∷ [])) → Tabled c g l
tabled_front c g l x h i k = rw (get_or-append l (x ∷ []) 0 i k) at (h i (omega (arith, length_snoc l x)))

pub tabled_last : (c : List ℕ) (g : ℕ → ℕ) (l : List ℕ) (x : ℕ) → Tabled c g (l ++ (x ∷ [])) → get_or c (length l) 0 ≡ g x
tabled_last c g l x h = rw (get_or_at l x [] 0 (length l) refl) at (h (length l) (omega (arith, length_snoc l x)))

-- an element more, or none
pub kept_length : (b : Bool) (x : ℕ) → length (cond b [] (x ∷ [])) ≡ bit (not b)
kept_length true x = refl
kept_length false x = refl

pub bound_kept : (l : List ℕ) (z : Bool) (x b : ℕ) → ((i : ℕ) → i < length l → get_or l i 0 < b)
    → x < b → (i : ℕ) → i < length (l ++ cond z [] (x ∷ []))
    → get_or (l ++ cond z [] (x ∷ [])) i 0 < b
bound_kept l true x b h g i k = rw (append-nil l) (h i (rw (append-nil l) at k))
bound_kept l false x b h g i k = bound_snoc l x b h g i k

pub left_more : (f : ℕ → ℕ) (l : List ℕ) (n : ℕ) (b : Bool) → map f l ++ cond b [] (f n ∷ []) ≡ map f (l ++ cond (not b) (n ∷ []) [])
left_more f l n true = sym (map-append f l [])
left_more f l n false = sym (map-append f l (n ∷ []))
