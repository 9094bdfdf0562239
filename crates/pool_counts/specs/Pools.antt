-- The pool rule over a whole plan: how many frames have room in the pool, up to the first that has not, and the peak of a read.
-- Assumes nothing.
use Rattle.std.specs.Prelude.{ℕ, suc, Bool, true, false, List, leb, length}
use Rattle.counting.specs.Count.{tabulate, largest, least}
use Rattle.schedule.specs.Schedule.{i_backlog}
use Rattle.pool_counts.specs.Backlog.{backlog_of}

-- the lowest position whose pool is overfull; as many as there are frames where none is
abbrev pub roomy_of : Bool → ℕ → List ℕ → ℕ
roomy_of save m cycles = least (length cycles) (λ i. leb m (backlog_of save cycles i))

-- a number after all cycles that a plan can have: "Foreign cycles reach 65,535."
abbrev pub past_all : ℕ
past_all = 65536

-- the buffers that a read needs in the cycle of frame i: one for the frame itself, and one for each of its backlog
abbrev pub buffers_for : List ℕ → ℕ → ℕ
buffers_for cycles i = suc (i_backlog cycles i)

-- the most that one of the first n frames needs
abbrev pub peak_among : List ℕ → ℕ → ℕ
peak_among cycles n = largest (tabulate n (buffers_for cycles))

-- the peak of a read; a save has none
abbrev pub peak_of : Bool → List ℕ → ℕ
peak_of true cycles = 0
peak_of false cycles = peak_among cycles (length cycles)
