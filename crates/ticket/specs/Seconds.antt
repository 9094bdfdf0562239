-- The capture seconds of a ticket (request 2026-02). What planner, checker, dock and printing take of a ticket is its header and its cards;
-- the seconds stand beside them.
-- Assumes nothing.
use Rattle.std.specs.Prelude.{ℕ, suc, ◌^◌, ◌≤◌, ◌<◌, ◌≡◌, cond, List, [], eqb, length, drop, get_or}
use Rattle.counting.specs.Count.{tabulate}
use Rattle.header.specs.Editions.{edition2}
use Rattle.header.specs.Heading.{header_bytes}
use Rattle.frame_lines.specs.Lines.{second_at}
use Rattle.ticket.specs.Ticket.{Parsed, accepted, refused, parse}

-- how many a ticket has: one for each frame in edition 02, none in edition 01
unfoldable pub how_many_seconds : ℕ → ℕ → ℕ
how_many_seconds edition frames = cond (eqb edition edition2) frames 0

abbrev pub seconds_in : Parsed → List ℕ → List ℕ
seconds_in (accepted h cards) s = tabulate (how_many_seconds h.edition (length cards)) (second_at h.edition s)
seconds_in (refused k) s = []

-- The seconds of a text in list order; none beside a refusal.
unfoldable pub seconds_of : List ℕ → List ℕ
seconds_of t = seconds_in (parse t) (drop header_bytes t)

-- the second at a position of such a list, 0 where there is none
abbrev pub second_of : List ℕ → ℕ → ℕ
second_of seconds p = get_or seconds p 0

-- What holds of the seconds of an accepted ticket.
pub record SecondsFit (edition frames : ℕ) (seconds : List ℕ) : Type 0 where
  pub each : length seconds ≡ how_many_seconds edition frames
  -- "the capture second (8)", a number of 8 digits
  pub small : (i : ℕ) → i < length seconds → second_of seconds i < 16 ^ 8
  -- "Seconds may repeat but not fall."
  pub order : (i : ℕ) → suc i < length seconds → second_of seconds i ≤ second_of seconds (suc i)
