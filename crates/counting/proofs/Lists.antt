-- Laws of `tabulate`, of filling a list with it, of `largest`, and of a list reversed.
-- Assumes nothing.
use Prim.Native.Nat.{ℕ, zero, suc, ◌+◌, ◌-◌, ◌≤◌, ◌<◌, max, zero-le}
use mathlib.Core.Path.{◌≡◌, refl, sym, ◌∙◌}
use mathlib.Core.List.{List, [], ◌∷◌, ◌++◌, append_assoc, reverse, reverse-cons, map, map-append}
use native.Mathlib.Omega.{arith}
use native.Mathlib.Numerals.{add-one}
use native.Mathlib.Decide.{dec_lt, ℕ_discrete}
use lib.ListN.{length, get_or, take, drop, set, replicate, length-set, length-append, length-reverse, get_or-append}
use lib.Seq.{take-suc, get_or_at, drop-cons, set_at, ext_get_or, get_or-set_same, get_or-set_other}
use Rattle.counting.specs.Count.{tabulate, largest}

pub length_tabulate : (n : ℕ) (f : ℕ → ℕ) → length (tabulate n f) ≡ n
length_tabulate zero f = refl
length_tabulate (suc n) f = omega (arith, length-append (tabulate n f) (f n ∷ []), length_tabulate n f)

pub get_or_tabulate : (n : ℕ) (f : ℕ → ℕ) (i d : ℕ) → i < n → get_or (tabulate n f) i d ≡ f i
get_or_tabulate zero f i d h = omega arith
get_or_tabulate (suc n) f i d h =
    elim (dec_lt i n) [
      | yes l ↦ get_or-append (tabulate n f) (f n ∷ []) d i (omega (arith, length_tabulate n f)) ∙ get_or_tabulate n f i d l
      | no l ↦
          (let e : i ≡ n = omega arith in
          rw e (get_or_at (tabulate n f) (f n) [] d n (length_tabulate n f)))
    ]

-- two lists of values are equal where the functions are, and where one place is set to what the second function gives
pub tabulate_cong : (n : ℕ) (f g : ℕ → ℕ) → ((i : ℕ) → i < n → f i ≡ g i) → tabulate n f ≡ tabulate n g
tabulate_cong zero f g h = refl
tabulate_cong (suc n) f g h = rw (tabulate_cong n f g (λ i l. h i (omega arith)), h n (omega arith))

pub set_tabulate :
    (n : ℕ) (f g : ℕ → ℕ) (k : ℕ) → k < n → ((i : ℕ) → i < n → (i ≡ k → ⊥) → f i ≡ g i)
    → set (tabulate n f) k (g k) ≡ tabulate n g
set_tabulate n f g k l h =
    ext_get_or 0 (set (tabulate n f) k (g k)) (tabulate n g)
    (length-set (tabulate n f) k (g k) ∙ length_tabulate n f ∙ sym (length_tabulate n g))
    (λ i b.
    let m : i < n = rw (length-set, length_tabulate n f) at b in
    let w : k < length (tabulate n f) = rw (length_tabulate n f) l in
    elim (ℕ_discrete i k) [
      | yes e ↦ rw e (get_or-set_same (tabulate n f) k (g k) 0 w ∙ sym (get_or_tabulate n g k 0 l))
      | no e ↦ get_or-set_other (tabulate n f) k i (g k) 0 e ∙ get_or_tabulate n f i 0 m ∙ h i m e ∙ sym (get_or_tabulate n g i 0 m)
    ])

-- a list whose front is being filled: one more place gets its value
pub fill :
    (f : ℕ → ℕ) (i : ℕ) (l : List ℕ) → i < length l → set (tabulate i f ++ drop i l) i (f i) ≡ tabulate (i + 1) f ++ drop (i + 1) l
fill f i l h =
    rw (add-one, drop-cons l i 0, set_at (tabulate i f) (get_or l i 0) (drop (suc i) l) (f i) i (length_tabulate i f))
    (sym (append_assoc (tabulate i f) (f i ∷ []) (drop (suc i) l)))

pub get_or_zeros : (n i : ℕ) → ◌≡◌ {A = ℕ} (get_or (replicate n 0) i 0) 0
get_or_zeros zero i = refl
get_or_zeros (suc n) zero = refl
get_or_zeros (suc n) (suc i) = get_or_zeros n i

pub le_largest : (l : List ℕ) (i : ℕ) → get_or l i 0 ≤ largest l
le_largest [] i = zero-le
le_largest (x ∷ l) zero = omega arith
le_largest (x ∷ l) (suc i) = omega (arith, le_largest l i)

pub largest_le : (l : List ℕ) (t : ℕ) → ((i : ℕ) → i < length l → get_or l i 0 ≤ t) → largest l ≤ t
largest_le [] t h = zero-le
largest_le (x ∷ l) t h = omega (arith, h 0 (omega arith), largest_le l t (λ i k. h (suc i) (omega arith)))

-- some element is the largest
pub largest_met : (l : List ℕ) → 1 ≤ largest l → (i : ℕ) × (i < length l) × (get_or l i 0 ≡ largest l)
largest_met [] h = absurd (omega arith)
largest_met (x ∷ l) h =
    elim (dec_lt x (largest l)) [
      | yes g ↦
          (let r : (i : ℕ) × (i < length l) × (get_or l i 0 ≡ largest l) = largest_met l (omega arith) in
          (suc r.0, omega arith, omega (arith, r.2)))
      | no g ↦ (0, omega arith, omega arith)
    ]

-- the largest of one element more
pub largest_snoc : (l : List ℕ) (x : ℕ) → largest (l ++ (x ∷ [])) ≡ max (largest l) x
largest_snoc [] x = omega arith
largest_snoc (y ∷ l) x = omega (arith, largest_snoc l x)

pub largest_take : (l : List ℕ) (i : ℕ) → i < length l → largest (take (i + 1) l) ≡ max (largest (take i l)) (get_or l i 0)
largest_take l i h = rw (add-one, take-suc l i 0 h) (largest_snoc (take i l) (get_or l i 0))

-- the element that stands at i, seen from the end of the reversed list, and from its front
pub get_or_reverse : (l : List ℕ) (i : ℕ) → i < length l → get_or (reverse l) (length l - suc i) 0 ≡ get_or l i 0
get_or_reverse [] i h = omega arith
get_or_reverse (x ∷ l) zero h =
    rw reverse-cons (get_or_at (reverse l) x [] 0 (suc (length l) - 1) (omega (arith, length-reverse l)))
get_or_reverse (x ∷ l) (suc i) h =
    let e : suc (length l) - suc (suc i) ≡ length l - suc i = omega arith in
    rw (reverse-cons, e)
    (get_or-append (reverse l) (x ∷ []) 0 (length l - suc i) (omega (arith, length-reverse l)) ∙ get_or_reverse l i (omega arith))

pub reverse_get_or : (l : List ℕ) (i : ℕ) → i < length l → get_or (reverse l) i 0 ≡ get_or l (length l - suc i) 0
reverse_get_or l i h =
    let e : length l - suc (length l - suc i) ≡ i = omega arith in
    rw e at (get_or_reverse l (length l - suc i) (omega arith))

-- the element that stands at i of a list that a function is mapped over
pub map_get_or : (f : ℕ → ℕ) (l : List ℕ) (i : ℕ) → i < length l → get_or (map f l) i 0 ≡ f (get_or l i 0)
map_get_or f [] i h = omega arith
map_get_or f (x ∷ l) zero h = refl
map_get_or f (x ∷ l) (suc i) h = map_get_or f l i (omega arith)

pub map_reverse : (f : ℕ → ℕ) (l : List ℕ) → map f (reverse l) ≡ reverse (map f l)
map_reverse f [] = refl
map_reverse f (x ∷ l) =
    rw (reverse-cons x l) (map-append f (reverse l) (x ∷ []) ∙ rw (map_reverse f l) (sym (reverse-cons (f x) (map f l))))

-- the largest of one value more
pub most_next : (f : ℕ → ℕ) (i : ℕ) → largest (tabulate (i + 1) f) ≡ max (largest (tabulate i f)) (f i)
most_next f i = rw (add-one i) (largest_snoc (tabulate i f) (f i))

pub among : (f : ℕ → ℕ) (i j : ℕ) → j < i → f j ≤ largest (tabulate i f)
among f i j l = omega (arith, le_largest (tabulate i f) j, get_or_tabulate i f j 0 l)

-- one more that is not over one of them
pub most_stays : (f : ℕ → ℕ) (i j : ℕ) → j < i → f i ≤ f j → largest (tabulate i f) ≡ largest (tabulate (i + 1) f)
most_stays f i j l h = omega (arith, most_next f i, among f i j l)
