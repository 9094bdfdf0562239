-- What the functions behind `join` answer, for two tickets that are accepted.
-- Assumes nothing.
use Rattle.std.specs.Prelude.{ℕ, ◌+◌, ◌*◌, ◌≡◌, cond, List, ltb}
use Rattle.header.specs.Editions.{edition2, line_bytes}
use Rattle.header.specs.Heading.{header_bytes}
use Rattle.header.specs.Limits.{max_frames}
use Rattle.header.specs.declared.Header.{Header}
use Rattle.std.specs.Prelude.{Ok}
use Rattle.ticket.specs.Ticket.{parse, answer_in}
use Rattle.join.specs.Join.{joinable}

-- a text is accepted, with this header
abbrev pub HasHeader : List ℕ → Header → Type 0
HasHeader t h = answer_in (parse t) ≡ Ok h

-- the frames of both
abbrev pub together : Header → Header → ℕ
together g h = g.frames + h.frames

-- 18, then 19, then 10; 0 for none
unfoldable pub pair_refusal : Header → Header → ℕ → ℕ
pair_refusal g h places =
    cond (joinable g h)
    (cond (ltb max_frames (together g h)) 19 (cond (ltb places (header_bytes + line_bytes edition2 * together g h)) 10 0))
    18
