-- The printed plan (document 01, the last paragraph of "Cases"): the text for a ticket, and what a call leaves of it in a lent buffer.
-- Edge cases: no frames print the line of T alone; with save and keep, a frame left in the pool prints cycle 0000.
-- Assumes nothing.
use Rattle.std.specs.Prelude.{ℕ, zero, suc, ◌≤◌, ◌≡◌, List, [], ◌++◌, length, take}
use Rattle.counting.specs.Frames.{card_of}
use Rattle.schedule.specs.Schedule.{cycle_of}
use Rattle.schedule.specs.Greedy.{Plan}
use Rattle.text.specs.Hex.{hex, end_of_line}
use Rattle.ticket.specs.Ticket.{Parsed, accepted, refused, parse}
use Rattle.mode_plans.specs.Plans.{plan_for}
use Rattle.print_lines.specs.Lines.{frame_line, refusal_text}

-- the lines of the first n frames
unfoldable pub frame_lines : List ℕ → List ℕ → ℕ → List ℕ
frame_lines cards cycles zero = []
frame_lines cards cycles (suc n) = frame_lines cards cycles n ++ frame_line n (card_of cards n) (cycle_of cycles n)

-- "T in 4 digits; then for each frame .."
unfoldable pub plan_text : List ℕ → Plan → List ℕ
plan_text cards plan = (hex 4 plan.T ++ end_of_line) ++ frame_lines cards plan.cycles (length cards)

unfoldable pub text_of : Parsed → List ℕ
text_of (accepted h cards) = plan_text cards (plan_for h.mode h.pool cards)
text_of (refused number) = refusal_text number

-- the text printed for a ticket
abbrev pub printed : List ℕ → List ℕ
printed ticket = text_of (parse ticket)

-- So many bytes stand at the front of a list. The second part follows from the first; both are what `&out[..bytes]` asks of a caller.
abbrev pub Front : ℕ → List ℕ → Type 0
Front bytes l = (bytes ≤ length l) × (bytes ≡ length (take bytes l))
