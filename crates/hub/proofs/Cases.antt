-- The tables of specs/Cases.antt, proved by computing.
-- Assumes nothing.
use mathlib.Core.Path.{◌≡◌, refl}
use mathlib.Core.List.{map}
use Rattle.schedule.specs.Greedy.{save_and_keep, greedy_writing, lazy_prefetching}
use Rattle.text.specs.Text.{digit, digits, number, is_line}
use Rattle.text.specs.Hex.{digit_of, hex}
use Rattle.header.specs.Editions.{known, second_digits}
use Rattle.header.specs.Heading.{header_of, within_limits, header_answer, heading}
use Rattle.frame_lines.specs.Lines.{card_at, second_at, second_before, line_fault, lines_fault, part_fault}
use Rattle.ticket.specs.Ticket.{parse}
use Rattle.ticket.specs.Print.{line_texts, ticket_text}
use Rattle.planner.specs.Plan.{plan_of}
use Rattle.hub.specs.Cases.{Case, told, asked, expected, card_cases, tight_cases}
use Rattle.hub.specs.Gather.{hub_cards}

pub cards_hold : map (λ (x : Case). told (asked x)) card_cases ≡ map expected card_cases
unfolding hub_cards
cards_hold = refl

pub tight_hold : map (λ (x : Case). told (asked x)) tight_cases ≡ map expected tight_cases
unfolding save_and_keep greedy_writing lazy_prefetching digit digits number is_line digit_of hex known second_digits header_of within_limits
    header_answer heading card_at second_at second_before line_fault lines_fault part_fault parse line_texts ticket_text plan_of hub_cards
tight_hold = refl
