-- Merging keeps the order: the merged list of two whose seconds do not fall has seconds that do not fall, and what holds of each frame of both
-- lists holds of each frame of the merged one.
-- Assumes nothing.
use Prim.Native.Nat.{ℕ, zero, suc, ◌≤◌, ◌<◌}
use mathlib.Core.List.{List, ◌∷◌}
use native.Mathlib.Omega.{arith}
use lib.ListN.{length}
use Rattle.merged_lines.specs.Merge.{Frame, merge, frame_at, second_in, NotFalling}
use Rattle.merged_lines.proofs.Merging.{Merged, no_first, no_second, takes_first, takes_second, merge_merged}

-- a list without its first frame, and with one in front that is not later than any of it
pub not_falling_rest : (x : Frame) (l : List Frame) → NotFalling (x ∷ l) → NotFalling l
not_falling_rest x l f i h = f (suc i) (omega arith)

not_falling_more : (x : Frame) (l : List Frame) → NotFalling l → ((i : ℕ) → i < length l → x.second ≤ second_in l i) → NotFalling (x ∷ l)
not_falling_more x l f low zero h = low 0 (omega arith)
not_falling_more x l f low (suc i) h = f i (omega arith)

-- the first second is the lowest
pub lowest_first : (x : Frame) (l : List Frame) → NotFalling (x ∷ l) → (i : ℕ) → i < length (x ∷ l) → x.second ≤ second_in (x ∷ l) i
lowest_first x l f zero h = omega arith
lowest_first x l f (suc i) h = omega (arith, lowest_first x l f i (omega arith), f i (omega arith))

-- what holds of each frame of both lists
merged_all : (P : Frame → Type 0) {a b c : List Frame} → Merged a b c → ((i : ℕ) → i < length a → P (frame_at a i))
    → ((i : ℕ) → i < length b → P (frame_at b i)) → (i : ℕ) → i < length c → P (frame_at c i)
merged_all P (no_first b) of-a of-b i l = of-b i l
merged_all P (no_second x a) of-a of-b i l = of-a i l
merged_all P (takes_first x y a b c h m) of-a of-b zero l = of-a 0 (omega arith)
merged_all P (takes_first x y a b c h m) of-a of-b (suc i) l = merged_all P m (λ k g. of-a (suc k) (omega arith)) of-b i (omega arith)
merged_all P (takes_second x y a b c h m) of-a of-b zero l = of-b 0 (omega arith)
merged_all P (takes_second x y a b c h m) of-a of-b (suc i) l = merged_all P m of-a (λ k g. of-b (suc k) (omega arith)) i (omega arith)

pub merge_all : (P : Frame → Type 0) (a b : List Frame) → ((i : ℕ) → i < length a → P (frame_at a i)) → ((i : ℕ) → i < length b → P (frame_at b i))
    → (i : ℕ) → i < length (merge a b) → P (frame_at (merge a b) i)
merge_all P a b = merged_all P (merge_merged a b)

-- Each frame that is taken is not later than any frame that is left in either list.
merged_not_falling : {a b c : List Frame} → Merged a b c → NotFalling a → NotFalling b → NotFalling c
merged_not_falling (no_first b) fa fb = fb
merged_not_falling (no_second x a) fa fb = fa
merged_not_falling (takes_first x y a b c h m) fa fb =
    not_falling_more x c (merged_not_falling m (not_falling_rest x a fa) fb)
    (merged_all (λ f. x.second ≤ f.second) m
    (λ i l. lowest_first x a fa (suc i) (omega arith))
    (λ i l. omega (arith, lowest_first y b fb i l)))
merged_not_falling (takes_second x y a b c h m) fa fb =
    not_falling_more y c (merged_not_falling m fa (not_falling_rest y b fb))
    (merged_all (λ f. y.second ≤ f.second) m
    (λ i l. omega (arith, lowest_first x a fa i l))
    (λ i l. lowest_first y b fb (suc i) (omega arith)))

pub merge_not_falling : (a b : List Frame) → NotFalling a → NotFalling b → NotFalling (merge a b)
merge_not_falling a b = merged_not_falling (merge_merged a b)
