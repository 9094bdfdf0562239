-- `merge` taken apart: its equations, how two lists are merged frame by frame, and its length; and the frames that a list of cards and a list of
-- seconds make.
-- Assumes nothing.
use Prim.Native.Nat.{ℕ, zero, suc, ◌+◌, ◌≤◌, ◌<◌}
use mathlib.Core.Path.{◌≡◌, refl, ap}
use mathlib.Core.List.{List, [], ◌∷◌, map}
use native.Mathlib.Omega.{arith}
use native.Mathlib.Decide.{dec_le}
use lib.ListN.{length, get_or}
use borrow.Author.Tests.{le-leb, lt-leb}
use Rattle.merged_lines.specs.Merge.{Frame, frames, merge, frame_at}

-- the equations
pub none_merge : (b : List Frame) → merge [] b ≡ b
unfolding merge
none_merge b = refl

pub merge_none : (a : List Frame) → merge a [] ≡ a
unfolding merge
merge_none [] = refl
merge_none (x ∷ a) = ap (λ (l : List Frame). x ∷ l) (merge_none a)

pub merge_first : (x y : Frame) (a b : List Frame) → x.second ≤ y.second → merge (x ∷ a) (y ∷ b) ≡ x ∷ merge a (y ∷ b)
unfolding merge
merge_first x y a b h = rw (le-leb x.second y.second h)

pub merge_second : (x y : Frame) (a b : List Frame) → y.second < x.second → merge (x ∷ a) (y ∷ b) ≡ y ∷ merge (x ∷ a) b
unfolding merge
merge_second x y a b h = rw (lt-leb x.second y.second h)

-- How the lists a and b are merged into c: by one of the equations, and then so on. A proof about `merge` goes by these four cases.
pub data Merged : List Frame → List Frame → List Frame → Type 0 where
  no_first : (b : List Frame) → Merged [] b b
  no_second : (x : Frame) (a : List Frame) → Merged (x ∷ a) [] (x ∷ a)
  takes_first : (x y : Frame) (a b c : List Frame) → x.second ≤ y.second → Merged a (y ∷ b) c → Merged (x ∷ a) (y ∷ b) (x ∷ c)
  takes_second : (x y : Frame) (a b c : List Frame) → y.second < x.second → Merged (x ∷ a) b c → Merged (x ∷ a) (y ∷ b) (y ∷ c)

-- by induction on the first list, and for each first frame x of it on the second
one_more : (x : Frame) (a : List Frame) → ((b : List Frame) → Merged a b (merge a b)) → (b : List Frame) → Merged (x ∷ a) b (merge (x ∷ a) b)
one_more x a so_far [] = rw (merge_none (x ∷ a)) (no_second x a)
one_more x a so_far (y ∷ b) =
    elim (dec_le x.second y.second) [
      | yes l ↦ rw (merge_first x y a b l) (takes_first x y a b (merge a (y ∷ b)) l (so_far (y ∷ b)))
      | no l ↦
          (let h : y.second < x.second = omega arith in
          rw (merge_second x y a b h) (takes_second x y a b (merge (x ∷ a) b) h (one_more x a so_far b)))
    ]

pub merge_merged : (a b : List Frame) → Merged a b (merge a b)
merge_merged [] b = rw (none_merge b) (no_first b)
merge_merged (x ∷ a) b = one_more x a (merge_merged a) b

-- the length
merged_length : {a b c : List Frame} → Merged a b c → length c ≡ length a + length b
merged_length (no_first b) = omega arith
merged_length (no_second x a) = omega arith
merged_length (takes_first x y a b c h m) = omega (arith, merged_length m)
merged_length (takes_second x y a b c h m) = omega (arith, merged_length m)

pub merge_length : (a b : List Frame) → length (merge a b) ≡ length a + length b
merge_length a b = merged_length (merge_merged a b)

-- the frames of as many cards as seconds
pub frames_length : (cards seconds : List ℕ) → length seconds ≡ length cards → length (frames cards seconds) ≡ length cards
frames_length [] seconds e = refl
frames_length (c ∷ cards) [] e = e
frames_length (c ∷ cards) (s ∷ seconds) e = ap suc (frames_length cards seconds (omega arith))

pub frame_at_is :
    (cards seconds : List ℕ) (i : ℕ) → i < length cards → length seconds ≡ length cards
    → frame_at (frames cards seconds) i ≡ record { second = get_or seconds i 0; card = get_or cards i 0 }
frame_at_is [] seconds i l e = absurd (omega arith)
frame_at_is (c ∷ cards) [] i l e = absurd (omega arith)
frame_at_is (c ∷ cards) (s ∷ seconds) zero l e = refl
frame_at_is (c ∷ cards) (s ∷ seconds) (suc i) l e = frame_at_is cards seconds i (omega arith) (omega arith)

pub frames_cards : (cards seconds : List ℕ) → length seconds ≡ length cards → map (λ (f : Frame). f.card) (frames cards seconds) ≡ cards
frames_cards [] seconds e = refl
frames_cards (c ∷ cards) [] e = absurd (omega arith)
frames_cards (c ∷ cards) (s ∷ seconds) e = ap (λ (l : List ℕ). c ∷ l) (frames_cards cards seconds (omega arith))

pub frames_seconds : (cards seconds : List ℕ) → length seconds ≡ length cards → map (λ (f : Frame). f.second) (frames cards seconds) ≡ seconds
frames_seconds [] [] e = refl
frames_seconds [] (s ∷ seconds) e = absurd (omega arith)
frames_seconds (c ∷ cards) [] e = absurd (omega arith)
frames_seconds (c ∷ cards) (s ∷ seconds) e = ap (λ (l : List ℕ). s ∷ l) (frames_seconds cards seconds (omega arith))
