-- What request 2026-04 promises of a joined ticket: in terms of frames, and about one call of `join`.
-- Assumes nothing.
use Rattle.std.specs.Prelude.{ℕ, ◌+◌, ◌≤◌, ◌<◌, ◌≡◌, List, length, take}
use Rattle.counting.specs.Joined.{Joined}
use Rattle.counting.specs.declared.Cycle.{Cycle}
use Rattle.header.specs.declared.Header.{Header}
use Rattle.ticket.specs.Seconds.{seconds_of}
use Rattle.ticket.specs.Ticket.{accepted, parse}
use Rattle.planner.specs.Plan.{plan_of}
use Rattle.std.specs.Prelude.{Ok}
use Rattle.merged_lines.specs.Merge.{Frame, frames, frame_at, second_in, NotFalling, first_place, second_place}
use Rattle.join.specs.Join.{joined_header}

-- One list of frames from two.
pub record OneShowing (first second whole : List Frame) : Type 0 where
  -- It is made of the frames of both, "each ticket's own order is kept",
  pub made_of_both : Joined first second whole
  -- as many as both have together: nothing is lost.
  pub as_many : length whole ≡ length first + length second
  -- "sorted by second"
  pub sorted : NotFalling whole
  -- Frame i of the first list stands after its own list's earlier frames and those of the second that have a lower second;
  pub first_stands : (i : ℕ) → i < length first → frame_at whole (first_place first second i) ≡ frame_at first i
  -- frame j of the second after its own list's earlier frames and those of the first that have the same second or a lower one.
  pub second_stands : (j : ℕ) → j < length second → frame_at whole (second_place first second j) ≡ frame_at second j
  -- So "for equal seconds the first ticket's frames go before the second's",
  pub first_before : (i j : ℕ) → i < length first → j < length second → second_in first i ≤ second_in second j
      → first_place first second i < second_place first second j
  -- and an earlier frame goes before a later one.
  pub second_before : (i j : ℕ) → i < length first → j < length second → second_in second j < second_in first i
      → second_place first second j < first_place first second i

-- A text takes no fewer cycles than another: where both have a plan, whatever the places of the plans' buffers.
abbrev pub NoFewer : List ℕ → List ℕ → Type 0
NoFewer whole half =
    (p q : ℕ) (S T : Cycle) → plan_of (parse whole) p ≡ Ok S → plan_of (parse half) q ≡ Ok T → T.0 ≤ S.0

-- The request about one call of `join`: the two texts, the numbers of the answer (a refusal's, 0 for none, and the bytes), and the buffer after the
-- call.
pub record Showing (first second : List ℕ) (refusal bytes : ℕ) (buffer : List ℕ) : Type 0 where
  -- Where two accepted tickets were joined, "the reader accepts" the bytes answered, as an edition 02 read with the cards and the pool of both,
  -- and its frames are one list from two.
  pub one_showing :
      (g h : Header) (a b : List ℕ) → parse first ≡ accepted g a → parse second ≡ accepted h b → refusal ≡ 0
      → (c : List ℕ)
      × (parse (take bytes buffer) ≡ accepted (joined_header g (length a + length b)) c)
      × OneShowing (frames a (seconds_of first)) (frames b (seconds_of second)) (frames c (seconds_of (take bytes buffer)))
  -- "Its fewest cycles are never below those of either half": of what `plan` answers for the three tickets.
  pub never_below : refusal ≡ 0 → NoFewer (take bytes buffer) first × NoFewer (take bytes buffer) second
