-- Merging as a loop does it: i frames of the first list and j of the second are taken, and the rest of the merged list is the rest of both,
-- merged.
-- Assumes nothing.
use Prim.Native.Nat.{ℕ, suc, ◌+◌, ◌≤◌, ◌<◌}
use mathlib.Core.Path.{◌≡◌, refl, sym, ap, ◌∙◌}
use mathlib.Core.List.{List, ◌∷◌}
use native.Mathlib.Omega.{arith}
use native.Mathlib.Decide.{dec_lt}
use lib.ListN.{length, drop, drop_of_length-le}
use lib.Seq.{drop-cons, drop-drop, get_or-drop}
use Rattle.merged_lines.specs.Merge.{Frame, frame_at, second_in, merge}
use Rattle.merged_lines.proofs.Merging.{merge_none, merge_first, merge_second}

abbrev no_frame : Frame
no_frame = record { second = 0; card = 0 }

-- a list from a place on: its first element, and the rest
next_at_is : (l r : List Frame) (k : ℕ) (x : Frame) → drop k l ≡ x ∷ r → (frame_at l k ≡ x) × (drop (suc k) l ≡ r)
next_at_is l r k x e =
    let z : k + 0 ≡ k = omega arith in
    let o : k + 1 ≡ suc k = omega arith in
    let at : frame_at (drop k l) 0 ≡ frame_at l k = rw z at (get_or-drop k l 0 no_frame) in
    let after : drop 1 (drop k l) ≡ drop (suc k) l = rw o at (drop-drop 1 k l) in
    (sym at ∙ ap (λ (s : List Frame). frame_at s 0) e, sym after ∙ ap (λ (s : List Frame). drop 1 s) e)

module _ (a b : List Frame) where
  -- what is left after i frames of the first list and j of the second
  abbrev pub Left : ℕ → ℕ → Type 0
  Left i j = drop (i + j) (merge a b) ≡ merge (drop i a) (drop j b)

  pub all_left : Left 0 0
  all_left = refl

  module _ (i j : ℕ) (left : Left i j) where
    abbrev k : ℕ
    k = i + j

    -- the first list's frame is next
    pub take_first :
        i < length a → (j < length b → second_in a i ≤ second_in b j) → (frame_at (merge a b) (i + j) ≡ frame_at a i) × Left (i + 1) j
    take_first h le =
        let x = frame_at a i in
        let heads : merge (drop i a) (drop j b) ≡ x ∷ merge (drop (suc i) a) (drop j b) =
        rw (drop-cons a i no_frame h)
        (elim (dec_lt j (length b)) [
          | yes l ↦ rw (drop-cons b j no_frame l) (merge_first x (frame_at b j) (drop (suc i) a) (drop (suc j) b) (le l))
          | no l ↦ rw (drop_of_length-le b {i = j} (omega arith), merge_none (x ∷ drop (suc i) a), merge_none (drop (suc i) a))
        ]) in
        let next = next_at_is (merge a b) (merge (drop (suc i) a) (drop j b)) k x (left ∙ heads) in
        let one : i + 1 + j ≡ suc k = omega arith in
        let up : i + 1 ≡ suc i = omega arith in
        (next.0, rw (one, up) next.1)

    -- the second list's frame is next
    pub take_second :
        j < length b → (i < length a → second_in b j < second_in a i) → (frame_at (merge a b) (i + j) ≡ frame_at b j) × Left i (j + 1)
    unfolding merge
    take_second h lt =
        let y = frame_at b j in
        let heads : merge (drop i a) (drop j b) ≡ y ∷ merge (drop i a) (drop (suc j) b) =
        rw (drop-cons b j no_frame h)
        (elim (dec_lt i (length a)) [
          | yes l ↦ rw (drop-cons a i no_frame l) (merge_second (frame_at a i) y (drop (suc i) a) (drop (suc j) b) (lt l))
          | no l ↦ rw (drop_of_length-le a {i = i} (omega arith)) refl
        ]) in
        let next = next_at_is (merge a b) (merge (drop i a) (drop (suc j) b)) k y (left ∙ heads) in
        let one : i + (j + 1) ≡ suc k = omega arith in
        let up : j + 1 ≡ suc j = omega arith in
        (next.0, rw (one, up) next.1)
