-- The table of specs/Cases.antt, proved by computing.
-- Assumes nothing.
use mathlib.Core.Path.{◌≡◌, refl}
use mathlib.Core.List.{map}
use Rattle.schedule.specs.Greedy.{save_and_keep, greedy_writing, lazy_prefetching}
use Rattle.schedule.specs.Cases.{expected, cases}
use Rattle.text.specs.Text.{digit, digits, number, is_line}
use Rattle.text.specs.Hex.{digit_of, hex}
use Rattle.header.specs.Editions.{known, second_digits}
use Rattle.header.specs.Heading.{header_of, within_limits, header_answer, heading}
use Rattle.frame_lines.specs.Lines.{card_at, second_at, second_before, line_fault, lines_fault, part_fault}
use Rattle.ticket.specs.Ticket.{parse, zeros}
use Rattle.ticket.specs.Print.{line_texts, ticket_text}
use Rattle.planner.specs.Plan.{plan_of, buffer_after}
use Rattle.planner.specs.Cases.{asked}

pub plans_hold : map asked cases ≡ map expected cases
unfolding save_and_keep greedy_writing lazy_prefetching digit digits number is_line digit_of hex known second_digits header_of within_limits
    header_answer heading card_at second_at second_before line_fault lines_fault part_fault parse zeros line_texts ticket_text plan_of
    buffer_after
plans_hold = refl
