-- The table of specs/Cases.antt, proved by computing.
-- Assumes nothing.
use mathlib.Core.Path.{◌≡◌, refl}
use mathlib.Core.List.{map}
use Rattle.schedule.specs.Greedy.{save_and_keep, greedy_writing, lazy_prefetching}
use Rattle.schedule.specs.Dock.{run}
use Rattle.schedule.specs.Drive.{outcome, peak, steps_to}
use Rattle.schedule.specs.Verdict.{verdict_on_read, verdict_on_save}
use Rattle.text.specs.Text.{digit, digits, number, is_line}
use Rattle.text.specs.Hex.{digit_of, hex}
use Rattle.header.specs.Editions.{known, second_digits}
use Rattle.header.specs.Heading.{header_of, within_limits, header_answer, heading}
use Rattle.frame_lines.specs.Lines.{card_at, second_at, second_before, line_fault, lines_fault, part_fault}
use Rattle.ticket.specs.Ticket.{parse, zeros, line_of, line_place}
use Rattle.ticket.specs.Seconds.{how_many_seconds, seconds_of}
use Rattle.ticket.specs.Print.{line_texts, ticket_text}
use Rattle.planner.specs.Plan.{plan_of, buffer_after}
use Rattle.merged_lines.specs.Merge.{merge}
use Rattle.join.specs.Join.{joinable, join_read, join_of, answer_of}
use Rattle.join.specs.Join as join
use Rattle.hub.specs.Gather.{hub_cards, gather_of, leaves}
use Rattle.hub.specs.Gather as hub
use Rattle.checker.specs.Check.{check_of}
use Rattle.plan_run.specs.Run.{ran_of}
use Rattle.print_lines.specs.Lines.{refusal_text}
use Rattle.print_lines.specs.Put.{bytes_in}
use Rattle.printing.specs.Printed.{frame_lines, plan_text, text_of}
use Rattle.print_lines.specs.Put as put
use Rattle.saver.specs.Calls.{new_of, save_of, close_of}
use Rattle.dock_start.specs.Start.{start_of, memory_started}
use Rattle.dock.specs.Drive.{record_after, bytes_after, drive_of, memory_driven}
use Rattle.firmware.specs.Calls.{result_of}
use Rattle.firmware.specs.Cases.{Case, call, expected, cases}

pub cases_hold : map (λ (x : Case). result_of (call x)) cases ≡ map expected cases
unfolding save_and_keep greedy_writing lazy_prefetching run outcome peak steps_to verdict_on_read verdict_on_save digit digits number is_line digit_of
    hex known second_digits header_of within_limits header_answer heading card_at second_at second_before line_fault lines_fault part_fault parse zeros
    line_of line_place how_many_seconds seconds_of line_texts ticket_text plan_of buffer_after merge joinable join_read join_of answer_of
    join.buffer_after hub_cards gather_of hub.answer_of leaves check_of ran_of frame_lines plan_text refusal_text text_of bytes_in put.buffer_after
    new_of save_of close_of start_of memory_started record_after bytes_after drive_of memory_driven
cases_hold = refl
