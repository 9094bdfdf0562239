-- The count in the pool rule of one frame, and where it ends (request 2026-03; document 01, "Rules from document 000").
--
-- The rule compares frame i with some of the others: a save with the earlier frames, a read with the later ones. The frames that count share
-- the pool with frame i until its cycle. With m of them the pool is overfull, and no further frame need be looked at.
-- Assumes nothing.
use Rattle.std.specs.Prelude.{ℕ, suc, min, Bool, true, false, List, leb, length, take, drop}
use Rattle.counting.specs.Count.{how_many, least}
use Rattle.schedule.specs.Schedule.{cycle_of, o_backlog, i_backlog}

-- the full count of the rule, for a save or a read
abbrev pub backlog_of : Bool → List ℕ → ℕ → ℕ
backlog_of true cycles i = o_backlog cycles i
backlog_of false cycles i = i_backlog cycles i

-- The cycles of the rule's frames, in list order: "earlier" from position 0 up, "later" from i + 1 up.
abbrev pub compared : Bool → List ℕ → ℕ → List ℕ
compared true cycles i = take i cycles
compared false cycles i = drop (suc i) cycles

-- whether a frame with cycle c counts beside one with cycle own: "equal to or later than i's", "equal to or earlier than i's"
abbrev pub counts : Bool → ℕ → ℕ → Bool
counts true own c = leb own c
counts false own c = leb c own

-- how many of the first k cycles of a list count
abbrev pub count_first : Bool → ℕ → List ℕ → ℕ → ℕ
count_first save own others k = how_many k (λ j. counts save own (cycle_of others j))

-- how many of the rule's first k frames count
abbrev pub count_among : Bool → List ℕ → ℕ → ℕ → ℕ
count_among save cycles i k = count_first save (cycle_of cycles i) (compared save cycles i) k

-- "the smaller of the full count and m"
abbrev pub count_up_to : Bool → ℕ → List ℕ → ℕ → ℕ
count_up_to save m cycles i = min (backlog_of save cycles i) m

-- "how many of the rule's earlier or later frames were looked at, in list order: up to and with the one that made it m, or all where none does":
-- the least number of the rule's frames among which m count, or all
abbrev pub looked_at : Bool → ℕ → List ℕ → ℕ → ℕ
looked_at save m cycles i = least (length (compared save cycles i)) (λ k. leb m (count_among save cycles i k))
