-- Where each frame stands when two lists are merged: at the place that `first_place` or `second_place` gives. A frame of the first list stands before
-- a frame of the second with the same second or a later one, and after one with an earlier second.
-- Assumes nothing.
use Prim.Native.Nat.{ℕ, zero, suc, ◌+◌, ◌≤◌, ◌<◌}
use mathlib.Core.Path.{◌≡◌, ap, ◌∙◌}
use mathlib.Core.Bool.{Bool, true, false}
use mathlib.Core.List.{List, ◌∷◌}
use native.Mathlib.Omega.{arith}
use native.Mathlib.Nat.{add-zero}
use lib.Dec.{leb, ltb}
use lib.ListN.{length}
use borrow.Author.Tests.{le-leb, lt-leb, lt-ltb, le-ltb}
use Rattle.counting.specs.Count.{bit, how_many}
use Rattle.counting.proofs.Sums.{sum_cong, sum_zero, sum_front, how_many_le}
use Rattle.merged_lines.specs.Merge.{Frame, merge, frame_at, second_in, NotFalling, first_place, second_place}
use Rattle.merged_lines.proofs.Merging.{Merged, no_first, no_second, takes_first, takes_second, merge_merged, merge_length}
use Rattle.merged_lines.proofs.Order.{not_falling_rest, lowest_first}

-- a place among n others: none of them before it, and the first of them before it
none_before : (n : ℕ) (t : ℕ → Bool) → ((j : ℕ) → j < n → t j ≡ false) → 0 + how_many n t ≡ 0
none_before n t h = omega (arith, sum_cong n (λ j. bit (t j)) (λ j. 0) (λ j l. ap bit (h j l)), sum_zero n)

first_one_before : (i n : ℕ) (t : ℕ → Bool) → t 0 ≡ true → i + how_many (suc n) t ≡ suc (i + how_many n (λ j. t (suc j)))
first_one_before i n t e = omega (arith, sum_front n (λ j. bit (t j)), ap bit e)

-- one more frame of its own list before it
first_goes_on : (x : Frame) (a b : List Frame) (i : ℕ) → first_place (x ∷ a) b (suc i) ≡ suc (first_place a b i)
first_goes_on x a b i = omega arith

second_goes_on : (y : Frame) (a b : List Frame) (j : ℕ) → second_place a (y ∷ b) (suc j) ≡ suc (second_place a b j)
second_goes_on y a b j = omega arith

-- the places where the first list's frame x is taken
module _ (x y : Frame) (a b : List Frame) (h : x.second ≤ y.second) (fb : NotFalling (y ∷ b)) where
  first_leads : first_place (x ∷ a) (y ∷ b) 0 ≡ 0
  first_leads =
      none_before (length (y ∷ b)) (λ j. ltb (second_in (y ∷ b) j) x.second)
      (λ j l. le-ltb (second_in (y ∷ b) j) x.second (omega (arith, lowest_first y b fb j l)))

  second_after : (j : ℕ) → j < length (y ∷ b) → second_place (x ∷ a) (y ∷ b) j ≡ suc (second_place a (y ∷ b) j)
  second_after j l =
      first_one_before j (length a) (λ i. leb (second_in (x ∷ a) i) (second_in (y ∷ b) j))
      (le-leb x.second (second_in (y ∷ b) j) (omega (arith, lowest_first y b fb j l)))

-- the places where the second list's frame y is taken
module _ (x y : Frame) (a b : List Frame) (h : y.second < x.second) (fa : NotFalling (x ∷ a)) where
  second_leads : second_place (x ∷ a) (y ∷ b) 0 ≡ 0
  second_leads =
      none_before (length (x ∷ a)) (λ i. leb (second_in (x ∷ a) i) y.second)
      (λ i l. lt-leb (second_in (x ∷ a) i) y.second (omega (arith, lowest_first x a fa i l)))

  first_after : (i : ℕ) → i < length (x ∷ a) → first_place (x ∷ a) (y ∷ b) i ≡ suc (first_place (x ∷ a) b i)
  first_after i l =
      first_one_before i (length b) (λ j. ltb (second_in (y ∷ b) j) (second_in (x ∷ a) i))
      (lt-ltb y.second (second_in (x ∷ a) i) (omega (arith, lowest_first x a fa i l)))

-- the frames stand there
merged_first_stands : {a b c : List Frame} → Merged a b c → NotFalling a → NotFalling b → (i : ℕ) → i < length a
    → frame_at c (first_place a b i) ≡ frame_at a i
merged_first_stands (no_first b) fa fb i l = absurd (omega arith)
merged_first_stands (no_second x a) fa fb i l = rw (add-zero i)
merged_first_stands (takes_first x y a b c h m) fa fb zero l = ap (λ k. frame_at (x ∷ c) k) (first_leads x y a b h fb)
merged_first_stands (takes_first x y a b c h m) fa fb (suc i) l =
    ap (λ k. frame_at (x ∷ c) k) (first_goes_on x a (y ∷ b) i) ∙ merged_first_stands m (not_falling_rest x a fa) fb i (omega arith)
merged_first_stands (takes_second x y a b c h m) fa fb i l =
    ap (λ k. frame_at (y ∷ c) k) (first_after x y a b h fa i l) ∙ merged_first_stands m fa (not_falling_rest y b fb) i l

pub first_stands : (a b : List Frame) → NotFalling a → NotFalling b → (i : ℕ) → i < length a → frame_at (merge a b) (first_place a b i) ≡ frame_at a i
first_stands a b = merged_first_stands (merge_merged a b)

merged_second_stands : {a b c : List Frame} → Merged a b c → NotFalling a → NotFalling b → (j : ℕ) → j < length b
    → frame_at c (second_place a b j) ≡ frame_at b j
merged_second_stands (no_first b) fa fb j l = rw (add-zero j)
merged_second_stands (no_second x a) fa fb j l = absurd (omega arith)
merged_second_stands (takes_first x y a b c h m) fa fb j l =
    ap (λ k. frame_at (x ∷ c) k) (second_after x y a b h fb j l) ∙ merged_second_stands m (not_falling_rest x a fa) fb j l
merged_second_stands (takes_second x y a b c h m) fa fb zero l = ap (λ k. frame_at (y ∷ c) k) (second_leads x y a b h fa)
merged_second_stands (takes_second x y a b c h m) fa fb (suc j) l =
    ap (λ k. frame_at (y ∷ c) k) (second_goes_on y (x ∷ a) b j) ∙ merged_second_stands m fa (not_falling_rest y b fb) j (omega arith)

pub second_stands : (a b : List Frame) → NotFalling a → NotFalling b → (j : ℕ) → j < length b → frame_at (merge a b) (second_place a b j) ≡ frame_at b j
second_stands a b = merged_second_stands (merge_merged a b)

-- which of two frames stands before the other
merged_first_before : {a b c : List Frame} → Merged a b c → NotFalling a → NotFalling b → (i j : ℕ) → i < length a → j < length b
    → second_in a i ≤ second_in b j → first_place a b i < second_place a b j
merged_first_before (no_first b) fa fb i j k l g = omega arith
merged_first_before (no_second x a) fa fb i j k l g = omega arith
merged_first_before (takes_first x y a b c h m) fa fb zero j k l g = omega (arith, first_leads x y a b h fb, second_after x y a b h fb j l)
merged_first_before (takes_first x y a b c h m) fa fb (suc i) j k l g =
    omega (arith, second_after x y a b h fb j l, merged_first_before m (not_falling_rest x a fa) fb i j (omega arith) l g)
merged_first_before (takes_second x y a b c h m) fa fb i zero k l g = omega (arith, lowest_first x a fa i k)
merged_first_before (takes_second x y a b c h m) fa fb i (suc j) k l g =
    omega (arith, first_after x y a b h fa i k, merged_first_before m fa (not_falling_rest y b fb) i j k (omega arith) g)

pub first_before : (a b : List Frame) → NotFalling a → NotFalling b → (i j : ℕ) → i < length a → j < length b
    → second_in a i ≤ second_in b j → first_place a b i < second_place a b j
first_before a b = merged_first_before (merge_merged a b)

merged_second_before : {a b c : List Frame} → Merged a b c → NotFalling a → NotFalling b → (i j : ℕ) → i < length a → j < length b
    → second_in b j < second_in a i → second_place a b j < first_place a b i
merged_second_before (no_first b) fa fb i j k l g = omega arith
merged_second_before (no_second x a) fa fb i j k l g = omega arith
merged_second_before (takes_first x y a b c h m) fa fb zero j k l g = omega (arith, lowest_first y b fb j l)
merged_second_before (takes_first x y a b c h m) fa fb (suc i) j k l g =
    omega (arith, second_after x y a b h fb j l, merged_second_before m (not_falling_rest x a fa) fb i j (omega arith) l g)
merged_second_before (takes_second x y a b c h m) fa fb i zero k l g = omega (arith, second_leads x y a b h fa, first_after x y a b h fa i k)
merged_second_before (takes_second x y a b c h m) fa fb i (suc j) k l g =
    omega (arith, first_after x y a b h fa i k, merged_second_before m fa (not_falling_rest y b fb) i j k (omega arith) g)

pub second_before : (a b : List Frame) → NotFalling a → NotFalling b → (i j : ℕ) → i < length a → j < length b
    → second_in b j < second_in a i → second_place a b j < first_place a b i
second_before a b = merged_second_before (merge_merged a b)

-- both places are inside
pub first_inside : (a b : List Frame) (i : ℕ) → i < length a → first_place a b i < length (merge a b)
first_inside a b i l = omega (arith, merge_length a b, how_many_le (length b) (λ j. ltb (second_in b j) (second_in a i)))

pub second_inside : (a b : List Frame) (j : ℕ) → j < length b → second_place a b j < length (merge a b)
second_inside a b j l = omega (arith, merge_length a b, how_many_le (length a) (λ i. leb (second_in a i) (second_in b j)))
