-- Counts of frames, each with both numbers: how many count, up to m, and how many were looked at. proofs/Cases.antt proves them by computing.
-- Assumes nothing.
use Rattle.std.specs.Prelude.{ℕ, Bool, true, false, List, [], ◌∷◌}
use Rattle.pool_counts.specs.Backlog.{count_up_to, looked_at}

pub record Numbers : Type 0 where
  pub count : ℕ
  pub looked : ℕ

-- a save or a read, m, the plan's cycles and the frame's position
pub data Case : Type 0 where
  frame : Bool → ℕ → List ℕ → ℕ → Numbers → Case

abbrev pub answered : Case → Numbers
answered (frame save m cycles i n) = record { count = count_up_to save m cycles i; looked = looked_at save m cycles i }

abbrev pub expected : Case → Numbers
expected (frame save m cycles i n) = n

infix 20 counts◌looked_at◌
-- so many count, and so many were looked at
abbrev counts◌looked_at◌ : ℕ → ℕ → Numbers
counts◌looked_at◌ a b = record { count = a; looked = b }

-- the frames with cycles 3 1 3 2 3 1
abbrev plan : List ℕ
plan = 3 ∷ 1 ∷ 3 ∷ 2 ∷ 3 ∷ 1 ∷ []

abbrev pub cases : List Case
cases =
    -- a save: before frame 3, in cycle 2, stand 3 1 3, of which two count; the first is the first that does, the third the second
    frame true 1 plan 3 (counts 1 looked_at 1)
    ∷ frame true 2 plan 3 (counts 2 looked_at 3)
    ∷ frame true 3 plan 3 (counts 2 looked_at 3)
    -- equal cycles count, in both modes: before frame 4, in cycle 3, and after frame 2
    ∷ frame true 2 plan 4 (counts 2 looked_at 3)
    ∷ frame true 9 plan 4 (counts 2 looked_at 4)
    ∷ frame false 2 plan 2 (counts 2 looked_at 2)
    ∷ frame false 3 plan 2 (counts 3 looked_at 3)
    ∷ frame false 9 plan 2 (counts 3 looked_at 3)
    -- a read: after frame 3, in cycle 2, stand 3 1, of which the last counts
    ∷ frame false 1 plan 3 (counts 1 looked_at 2)
    ∷ frame false 2 plan 3 (counts 1 looked_at 2)
    -- none are there to look at
    ∷ frame true 1 plan 0 (counts 0 looked_at 0)
    ∷ frame false 1 plan 5 (counts 0 looked_at 0)
    -- a cycle 0 counts as the number 0
    ∷ frame false 1 (1 ∷ 0 ∷ []) 0 (counts 1 looked_at 1)
    ∷ frame true 1 (0 ∷ 0 ∷ []) 1 (counts 1 looked_at 1)
    -- m of 0 is reached before any frame is looked at
    ∷ frame true 0 plan 3 (counts 0 looked_at 0)
    ∷ []
