-- The merged list is made of the frames of the two lists, each list's own order kept; and so of its cards.
-- Assumes nothing.
use Prim.Native.Nat.{ℕ}
use mathlib.Core.Path.{◌≡◌}
use mathlib.Core.List.{List, [], ◌∷◌, map}
use lib.ListN.{length}
use Rattle.counting.specs.Joined.{Joined, none, left, right}
use Rattle.counting.proofs.Joined.{joined_map}
use Rattle.merged_lines.specs.Merge.{Frame, frames, merge}
use Rattle.merged_lines.proofs.Merging.{Merged, no_first, no_second, takes_first, takes_second, merge_merged, frames_cards}

-- joined with no frames
joined_none : (a : List Frame) → Joined a [] a
joined_none [] = none
joined_none (x ∷ a) = left (joined_none a)

none_joined : (b : List Frame) → Joined [] b b
none_joined [] = none
none_joined (y ∷ b) = right (none_joined b)

merged_joined : {a b c : List Frame} → Merged a b c → Joined a b c
merged_joined (no_first b) = none_joined b
merged_joined (no_second x a) = joined_none (x ∷ a)
merged_joined (takes_first x y a b c h m) = left (merged_joined m)
merged_joined (takes_second x y a b c h m) = right (merged_joined m)

pub merge_joined : (a b : List Frame) → Joined a b (merge a b)
merge_joined a b = merged_joined (merge_merged a b)

-- the cards of the merged list
pub cards_joined :
    (cards seconds cards' seconds' : List ℕ) → length seconds ≡ length cards → length seconds' ≡ length cards'
    → Joined cards cards' (map (λ (f : Frame). f.card) (merge (frames cards seconds) (frames cards' seconds')))
cards_joined cards seconds cards' seconds' e e' =
    rw (frames_cards cards seconds e, frames_cards cards' seconds' e')
    at (joined_map (λ (f : Frame). f.card) (merge_joined (frames cards seconds) (frames cards' seconds')))
