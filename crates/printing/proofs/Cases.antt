-- The cases of the printed text, by computing.
-- Assumes nothing.
use mathlib.Core.Path.{◌≡◌, refl}
use mathlib.Core.List.{map}
use Rattle.schedule.specs.Greedy.{save_and_keep, greedy_writing, lazy_prefetching}
use Rattle.text.specs.Text.{digit, digits, number, is_line}
use Rattle.text.specs.Hex.{digit_of, hex}
use Rattle.header.specs.Editions.{known, second_digits}
use Rattle.header.specs.Heading.{header_of, within_limits, header_answer, heading}
use Rattle.frame_lines.specs.Lines.{card_at, second_at, second_before, line_fault, lines_fault, part_fault}
use Rattle.ticket.specs.Ticket.{parse}
use Rattle.printing.specs.Printed.{frame_lines, plan_text, text_of}
use Rattle.print_lines.specs.Lines.{refusal_text}
use Rattle.printing.specs.Cases.{Case, cases}

pub texts_hold : map (λ (c : Case). c.text) cases ≡ map (λ (c : Case). c.expected) cases
unfolding cases text_of refusal_text plan_text frame_lines lazy_prefetching save_and_keep greedy_writing digit digits number is_line
    digit_of hex known second_digits header_of within_limits header_answer heading card_at second_at second_before line_fault lines_fault
    part_fault parse
texts_hold = refl
