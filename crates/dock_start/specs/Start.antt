-- What `start` answers and leaves, for every ticket and every memory.
-- Assumes nothing.
use Rattle.std.specs.Prelude.{ℕ, cond, Result, Ok, Err, List, ltb, length}
use Rattle.counting.specs.Count.{written}
use Rattle.ticket.specs.Ticket.{Parsed, accepted, refused}
use Rattle.dock.specs.State.{new_dock}
use Rattle.dock.specs.declared.Dock.{Dock}

-- What `start` answers: the ticket's own refusal, then 10 where lent memory has fewer than L places; otherwise a new dock.
unfoldable pub start_of : Parsed → ℕ → Result Dock ℕ
start_of (accepted h cards) places = cond (ltb places (length cards)) (Err 10) (Ok (new_dock h.pool (length cards)))
start_of (refused k) places = Err k

-- The memory after `start`: each frame's card, none held; later places keep their content, and a refusal changes nothing.
unfoldable pub memory_started : Parsed → List ℕ → List ℕ
memory_started (accepted h cards) before = cond (ltb (length before) (length cards)) before (written cards before)
memory_started (refused k) before = before
