-- The table of specs/Cases.antt, proved by computing.
-- Assumes nothing.
use mathlib.Core.Path.{◌≡◌, refl}
use mathlib.Core.List.{map}
use Rattle.schedule.specs.Dock.{run}
use Rattle.schedule.specs.Drive.{peak, steps_to}
use Rattle.schedule.specs.Verdict.{verdict_on_read, verdict_on_save}
use Rattle.schedule.specs.Cases.{Case, expected, cases}
use Rattle.text.specs.Text.{digit, digits, number, is_line}
use Rattle.text.specs.Hex.{digit_of, hex}
use Rattle.header.specs.Editions.{known, second_digits}
use Rattle.header.specs.Heading.{header_of, within_limits, header_answer, heading}
use Rattle.frame_lines.specs.Lines.{card_at, second_at, second_before, line_fault, lines_fault, part_fault}
use Rattle.ticket.specs.Ticket.{parse}
use Rattle.ticket.specs.Print.{line_texts, ticket_text}
use Rattle.checker.specs.Check.{check_of}
use Rattle.checker.specs.Cases.{told, asked}

pub verdicts_hold : map asked cases ≡ map (λ (x : Case). told (expected x)) cases
unfolding run peak steps_to verdict_on_read verdict_on_save digit digits number is_line digit_of hex known second_digits header_of
    within_limits header_answer heading card_at second_at second_before line_fault lines_fault part_fault parse line_texts ticket_text
    check_of
verdicts_hold = refl
