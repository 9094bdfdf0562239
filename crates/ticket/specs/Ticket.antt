-- The ticket (document 01, "The ticket, edition 1" and "Grounds for turning a ticket or call down", and request 2026-02): what a text is read
-- as. The edition in the header decides how the frame lines are read.
--
-- Edge cases: a ticket with no frames is its header alone; a text cut short is refused by 1 in its header and by 7 in its lines.
-- Assumes nothing.
use Rattle.std.specs.Prelude.{ℕ, ◌+◌, ◌*◌, ◌-◌, cond, List, [], ◌++◌, eqb, ltb, length, take, drop, replicate}
use Rattle.counting.specs.Count.{tabulate}
use Rattle.header.specs.Editions.{edition2, line_digits, line_bytes}
use Rattle.header.specs.Heading.{header_bytes, edition_of, heading}
use Rattle.header.specs.Numbers.{Numbers, accepted_as, refused_by}
use Rattle.header.specs.Limits.{max_cards, max_frames}
use Rattle.header.specs.declared.Header.{Header}
use Rattle.std.specs.Prelude.{Result, Ok, Err}
use Rattle.frame_lines.specs.Lines.{card_at, part_fault, cards_read}
use Rattle.frame_lines.specs.Tally.{counts_up_to}
use Rattle.ticket.specs.declared.Ticket.{Ticket}

-- What a text is read as: a header and the card of each frame in list order, or the number of a refusal.
pub data Parsed : Type 0 where
  accepted : Header → List ℕ → Parsed
  refused : ℕ → Parsed

abbrev pub parse_part : Result Header ℕ → List ℕ → Parsed
parse_part (Err k) s = refused k
parse_part (Ok h) s =
    cond (eqb (part_fault h.edition s h.cards h.frames) 0)
    (accepted h (tabulate h.frames (card_at h.edition s)))
    (refused (part_fault h.edition s h.cards h.frames))

-- "Tickets: 1 to 6, then line by line 7 before 8, then 9", with 17 "after 7 and 8 of the same line"
unfoldable pub parse : List ℕ → Parsed
parse t = parse_part (heading t) (drop header_bytes t)

-- the answer to a text, without the cards
abbrev pub answer_in : Parsed → Result Header ℕ
answer_in (accepted h cards) = Ok h
answer_in (refused k) = Err k

-- What lent memory holds when a text was read into it: over its front the cards of the frame lines, up to the first that does not pass. A
-- refused header leaves it as it was.
abbrev pub part_into : Result Header ℕ → List ℕ → List ℕ → List ℕ
part_into (Err k) s memory = memory
part_into (Ok h) s memory = cards_read h.edition s h.cards h.frames memory

unfoldable pub read_into : List ℕ → List ℕ → List ℕ
read_into t memory = part_into (heading t) (drop header_bytes t) memory

-- n zeros
unfoldable pub zeros : ℕ → List ℕ
zeros n = replicate n 0

-- The ticket as the code answers it: the cards fill the first places, the others are 0.
abbrev pub ticket_of : Parsed → Result Ticket ℕ
ticket_of (accepted h cards) = Ok (record { header = h; card = cards ++ zeros (max_frames - length cards) })
ticket_of (refused k) = Err k

-- its header, or the refusal
abbrev pub header_in : Result Ticket ℕ → Result Header ℕ
header_in (Ok ticket) = Ok ticket.header
header_in (Err k) = Err k

-- The numbers of the answer: the refusal's, 0 for an accepted ticket, and what stands in the header, all 0 beside a refusal.
abbrev pub numbers_in : Parsed → Numbers
numbers_in (accepted h cards) = accepted_as h
numbers_in (refused k) = refused_by k

-- The number of the refusal, 0 for an accepted ticket.
abbrev pub refusal_of : Parsed → ℕ
refusal_of (accepted h cards) = 0
refusal_of (refused k) = k

-- "a line is wanted at a position not below L": 16, after the ticket's own
abbrev pub line_refusal_of : Parsed → ℕ → ℕ
line_refusal_of (accepted h cards) p = cond (ltb p (length cards)) 0 16
line_refusal_of (refused k) p = k

-- the longest ticket: its header, and the widest line for each of the most frames
abbrev pub longest_ticket : ℕ
longest_ticket = header_bytes + line_bytes edition2 * max_frames

-- the byte of a ticket at which the line of frame p begins
abbrev pub line_start : List ℕ → ℕ → ℕ
line_start t p = header_bytes + line_bytes (edition_of t) * p

-- the bytes of that line, without its end byte
abbrev pub line_in : List ℕ → ℕ → List ℕ
line_in t p = take (line_digits (edition_of t)) (drop (line_start t p) t)

-- "that frame's line as a part of the caller's own ticket, without its end byte"; empty with a refusal
unfoldable pub line_of : List ℕ → ℕ → List ℕ
line_of t p = cond (eqb (line_refusal_of (parse t) p) 0) (line_in t p) []

-- and the byte of the ticket at which this part begins; the empty part stands at the ticket's first byte
unfoldable pub line_place : List ℕ → ℕ → ℕ
line_place t p = cond (eqb (line_refusal_of (parse t) p) 0) (line_start t p) 0

-- "A count of frames for each of the 32 cards"; beside a refusal all are 0
abbrev pub counts_of : Parsed → List ℕ
counts_of (accepted h cards) = counts_up_to cards (length cards)
counts_of (refused k) = zeros max_cards
