-- Parts of a list, runs of stores, and a list at the front of a table.
-- Assumes nothing.
use Prim.Native.Nat.{ℕ, zero, suc, ◌+◌, ◌-◌, ◌≤◌, ◌<◌}
use mathlib.Core.Path.{◌≡◌, refl, sym, ap, ◌∙◌}
use mathlib.Core.List.{List, [], ◌∷◌, ◌++◌, append_assoc, map}
use native.Mathlib.Omega.{arith}
use native.Mathlib.Nat.{sub-zero, zero-sub, suc-sub-suc, zero-add, add-zero, suc-add}
use native.Mathlib.Decide.{dec_lt}
use lib.Dec.{ltb}
use lib.ListN.{length, get_or, take, drop, set, replicate, length-drop, length-append, length-take}
use lib.Seq.{take_all, take-add, take-nil, drop-cons, drop-drop, get_or-drop, set_at, set_comm, sets, sets-eq, length-sets, get_or-set_same, get_or-set_other}
use borrow.Author.Tests.{lt-ltb, le-ltb}
use borrow.Rule.Slice.PartMut.{put_mid}
use Rattle.counting.specs.Count.{written}

-- the part of a list from place k on, as a borrowed part `&s[k..]` is written
pub from_place : (k : ℕ) (l : List ℕ) → take (length l - k) (drop k l) ≡ drop k l
from_place k l = take_all (length l - k) (drop k l) (simp length-drop (omega arith))

pub drop_replicate : (n k x : ℕ) → drop k (replicate n x) ≡ replicate (n - k) x
drop_replicate n zero x = rw sub-zero
drop_replicate zero (suc k) x = rw zero-sub
drop_replicate (suc n) (suc k) x = rw suc-sub-suc (drop_replicate n k x)

-- whether a place below n is inside, of the list and of its first n elements
pub below_take : (n at : ℕ) (s : List ℕ) → at < n → ltb at (length (take n s)) ≡ ltb at (length s)
below_take n at s h =
    elim (dec_lt at (length s)) [
      | yes l ↦ rw (lt-ltb at (length s) l) (lt-ltb at (length (take n s)) (rw (length-take n s) (omega arith)))
      | no l ↦ rw (le-ltb at (length s) (omega arith)) (le-ltb at (length (take n s)) (rw (length-take n s) (omega arith)))
    ]

-- a part of the front, and two parts that meet
pub drop_take : (k n : ℕ) (s : List ℕ) → drop k (take (k + n) s) ≡ take n (drop k s)
drop_take zero n s = rw zero-add
drop_take (suc k) n [] = rw (take-nil {A = ℕ} (suc k + n), take-nil {A = ℕ} n)
drop_take (suc k) n (x ∷ s) = rw (suc-add k n) (drop_take k n s)

pub parts_meet : (l : List ℕ) (at a b : ℕ) → take a (drop at l) ++ take b (drop (at + a) l) ≡ take (a + b) (drop at l)
parts_meet l at a b = rw (take-add, drop-drop)

-- a run of stores keeps the length, and a run from where it ended makes one run of both
pub sets_length : (l x : List ℕ) (at : ℕ) (values : List ℕ) → x ≡ sets l at values → length x ≡ length l
sets_length l x at values e = ap length e ∙ length-sets l at values

pub sets_append : (l : List ℕ) (i : ℕ) (a b : List ℕ) (k : ℕ) → k ≡ i + length a → sets (sets l i a) k b ≡ sets l i (a ++ b)
sets_append l i [] b k e =
    let f : k ≡ i = omega (arith, e) in
    rw f
sets_append l i (x ∷ a) b k e = sets_append (set l i x) (suc i) a b k (omega (arith, e))

-- a part of a list that is copied over is a run of stores
pub part_put :
    (at n : ℕ) (l part values : List ℕ) → part ≡ values → n ≡ length values → at + length values ≤ length l → put_mid at n l part ≡ sets l at values
part_put at n l part values e f h =
    rw (e, f, sets-eq values l at h, drop-drop) (sym (append_assoc (take at l) values (drop (at + length values) l)))

-- a store before a run of stores, and a run before where it begins: the order does not matter
pub set_sets : (l : List ℕ) (i k x : ℕ) (b : List ℕ) → i < k → set (sets l k b) i x ≡ sets (set l i x) k b
set_sets l i k x [] h = refl
set_sets l i k x (y ∷ b) h =
    set_sets (set l k y) i (suc k) x b (omega arith)
    ∙ ap (λ (m : List ℕ). sets m (suc k) b) (set_comm l k i y x (λ e. omega (arith, e)))

sets_sets : (l : List ℕ) (i k : ℕ) (a b : List ℕ) → i + length a ≤ k → sets (sets l k b) i a ≡ sets (sets l i a) k b
sets_sets l i k [] b h = refl
sets_sets l i k (x ∷ a) b h =
    ap (λ (m : List ℕ). sets m (suc i) a) (set_sets l i k x b (omega arith)) ∙ sets_sets (set l i x) (suc i) k a b (omega arith)

pub sets_before : (l : List ℕ) (i : ℕ) (a b : List ℕ) (k : ℕ) → k ≡ i + length a → sets (sets l k b) i a ≡ sets l i (a ++ b)
sets_before l i a b k e = sets_sets l i k a b (omega (arith, e)) ∙ sets_append l i a b k e

-- the next place of a table set
pub written_set : (l table : List ℕ) (x : ℕ) → length l < length table → set (written l table) (length l) x ≡ written (l ++ (x ∷ [])) table
written_set l table x h =
    let one : length (l ++ (x ∷ [])) ≡ suc (length l) = omega (arith, length-append l (x ∷ [])) in
    rw (one, drop-cons table (length l) 0 h, set_at l (get_or table (length l) 0) (drop (suc (length l)) table) x (length l) refl)
    (sym (append_assoc l (x ∷ []) (drop (suc (length l)) table)))

-- a part taken, before or after a function is mapped over the list
pub map_take : (f : ℕ → ℕ) (n : ℕ) (l : List ℕ) → take n (map f l) ≡ map f (take n l)
map_take f zero l = refl
map_take f (suc n) [] = refl
map_take f (suc n) (x ∷ l) = ap (λ (r : List ℕ). f x ∷ r) (map_take f n l)

pub map_drop : (f : ℕ → ℕ) (n : ℕ) (l : List ℕ) → drop n (map f l) ≡ map f (drop n l)
map_drop f zero l = refl
map_drop f (suc n) [] = refl
map_drop f (suc n) (x ∷ l) = map_drop f n l

-- a place set, before or after a function is mapped over the list
pub map_set : {A B : Type 0} (f : A → B) (l : List A) (k : ℕ) (x : A) → set (map f l) k (f x) ≡ map f (set l k x)
map_set f [] k x = refl
map_set f (y ∷ l) zero x = refl
map_set {B = B} f (y ∷ l) (suc k) x = ap (λ (r : List B). f y ∷ r) (map_set f l k x)

-- a list from place n on: its first element, and the rest
pub drop_head : (l : List ℕ) (n x : ℕ) (r : List ℕ) → drop n l ≡ x ∷ r → (get_or l n 0 ≡ x) × (drop (n + 1) l ≡ r)
drop_head l n x r e =
    let at : get_or (drop n l) 0 0 ≡ get_or l n 0 = rw add-zero at (get_or-drop n l 0 0) in
    (sym at ∙ ap (λ (k : List ℕ). get_or k 0 0) e, sym (drop-drop 1 n l) ∙ ap (λ (k : List ℕ). drop 1 k) e)

-- the values of a table with one more, all below a bound
pub one_more_below : (table : List ℕ) (n x b : ℕ) → n < length table → ((i : ℕ) → i < n → get_or table i 0 < b) → x < b
    → (i : ℕ) → i < n + 1 → get_or (set table n x) i 0 < b
one_more_below table n x b room h g i l =
    elim (dec_lt i n) [
      | yes k ↦ rw (get_or-set_other table n i x 0 (λ e. omega arith)) (h i k)
      | no k ↦ (let e : i ≡ n = omega arith in rw (e, get_or-set_same table n x 0 room) g)
    ]
