-- Calls with their inputs, and what each answers, in plain numbers: the library's calls by the definitions that their contracts give, and the
-- dock's calls. specs/Cases.antt is a table of these.
-- Assumes nothing.
use Rattle.std.specs.Prelude.{ℕ, Bool, true, false, List, map, length, Result as Told, Ok, Err}
use Rattle.ticket.specs.Ticket.{parse, numbers_in, line_refusal_of}
use Rattle.planner.specs.Plan.{plan_of, buffer_after}
use Rattle.planner.specs.Numbers.{numbers_of as numbers_of_plan}
use Rattle.join.specs.Join.{Outcome, join_of, answer_of, buffer_after as joined_into}
use Rattle.join.specs.Numbers.{numbers_of as numbers_of_join}
use Rattle.hub.specs.Gather.{answer_for as gathered_of, buffer_after as gathered_into}
use Rattle.hub.specs.Numbers.{numbers_of as numbers_of_hub}
use Rattle.checker.specs.Check.{check_of}
use Rattle.checker.specs.Numbers.{numbers_of as numbers_of_check}
use Rattle.plan_run.specs.Run.{ran_of}
use Rattle.plan_run.specs.Numbers.{numbers_of as numbers_of_run}
use Rattle.print_lines.specs.Put.{bytes_in, buffer_after as text_after}
use Rattle.printing.specs.Printed.{printed}
use Rattle.saver.specs.Calls.{new_of, save_of, close_of}
use Rattle.saver.specs.declared.Saver.{Saver}
use Rattle.saver.specs.declared.Answer.{Answer as SaverAnswer}
use Rattle.dock_start.specs.Start.{start_of, memory_started}
use Rattle.dock.specs.Drive.{drive_of, memory_driven}
use Rattle.dock.specs.State.{new_dock}
use Rattle.dock.specs.declared.Dock.{Dock}
use Rattle.dock.specs.declared.Step.{Step}
use Rattle.plain_answers.specs.Answers.{ticket_answer, line_part, counts_answer, plan_answer, join_answer, hub_answer, check_answer, run_answer}
use Rattle.plain_answers.specs.declared.tickets.TicketAnswer.{TicketAnswer}
use Rattle.plain_answers.specs.declared.tickets.Part.{Part}
use Rattle.plain_answers.specs.declared.tickets.CountsAnswer.{CountsAnswer}
use Rattle.plain_answers.specs.declared.plans.PlanAnswer.{PlanAnswer}
use Rattle.plain_answers.specs.declared.joins.JoinAnswer.{JoinAnswer}
use Rattle.plain_answers.specs.declared.hubs.HubAnswer.{HubAnswer}
use Rattle.plain_answers.specs.declared.checks.CheckAnswer.{CheckAnswer}
use Rattle.plain_answers.specs.declared.checks.RunAnswer.{RunAnswer}

-- A call, with a ticket and what else it takes: a lent buffer as it is before the call, another ticket, a plan, a position, a saver's record,
-- memory, a step. A join takes two tickets: the ticket is its first one or its second, and the other one follows. The hub takes the patterns of the
-- cameras, the camera of each frame and a buffer.
pub data Call : Type 0 where
  parse_ticket : List ℕ → Call
  plan_ticket : List ℕ → List ℕ → Call
  print_plan : List ℕ → List ℕ → Call
  join_first : List ℕ → List ℕ → List ℕ → Call
  join_second : List ℕ → List ℕ → List ℕ → Call
  gather : List ℕ → List ℕ → List ℕ → Call
  check_plan : List ℕ → List ℕ → Call
  run_plan : List ℕ → List ℕ → Call
  line : List ℕ → ℕ → Call
  counts : List ℕ → Call
  new_saver : ℕ → ℕ → Call
  save : Saver → ℕ → Call
  close : Saver → Call
  start_dock : List ℕ → List ℕ → Call
  drive_dock : Dock → List ℕ → Step → Call

-- The same call with another ticket; a call that takes none stays.
abbrev pub with_ticket : List ℕ → Call → Call
with_ticket t (parse_ticket _) = parse_ticket t
with_ticket t (plan_ticket _ buffer) = plan_ticket t buffer
with_ticket t (print_plan _ buffer) = print_plan t buffer
with_ticket t (join_first _ other buffer) = join_first t other buffer
with_ticket t (join_second _ other buffer) = join_second t other buffer
with_ticket t (gather chosen cameras buffer) = gather chosen cameras buffer
with_ticket t (check_plan _ cycles) = check_plan t cycles
with_ticket t (run_plan _ cycles) = run_plan t cycles
with_ticket t (line _ p) = line t p
with_ticket t (counts _) = counts t
with_ticket t (new_saver cards pool) = new_saver cards pool
with_ticket t (save s card) = save s card
with_ticket t (close s) = close s
with_ticket t (start_dock _ memory) = start_dock t memory
with_ticket t (drive_dock d memory step) = drive_dock d memory step

-- The calls that tell a ticket's edition or its seconds: `parse`, which gives the edition as a number, `line`, whose place and length depend on how
-- wide a line is, and a join, which is of edition 02 alone and sorts by seconds.
abbrev pub tells_edition : Call → Bool
tells_edition (parse_ticket _) = true
tells_edition (plan_ticket _ _) = false
tells_edition (print_plan _ _) = false
tells_edition (join_first _ _ _) = true
tells_edition (join_second _ _ _) = true
tells_edition (gather _ _ _) = false
tells_edition (check_plan _ _) = false
tells_edition (run_plan _ _) = false
tells_edition (line _ _) = true
tells_edition (counts _) = false
tells_edition (new_saver _ _) = false
tells_edition (save _ _) = false
tells_edition (close _) = false
tells_edition (start_dock _ _) = false
tells_edition (drive_dock _ _ _) = false

-- What it answers, and lent memory afterwards.
pub data Result : Type 0 where
  -- refusal, edition, mode, cards, pool, frames
  ticket : ℕ → ℕ → ℕ → ℕ → ℕ → ℕ → Result
  -- refusal, T, the buffer
  plan : ℕ → ℕ → List ℕ → Result
  -- bytes, the buffer
  text : ℕ → List ℕ → Result
  -- refusal, bytes, the buffer
  joined_ticket : ℕ → ℕ → List ℕ → Result
  -- refusal, how many cards were given, the buffer
  gathered : ℕ → ℕ → List ℕ → Result
  -- refusal, verdict, position, T, peak
  verdict : ℕ → ℕ → ℕ → ℕ → ℕ → Result
  -- refusal, broken off, complete, delivered, cycles ended, cycles needed, peak
  run : ℕ → Bool → Bool → ℕ → ℕ → ℕ → ℕ → Result
  -- offset, length, and the number of the call beside it
  part : ℕ → ℕ → ℕ → Result
  -- refusal, the frames of each card
  card_counts : ℕ → List ℕ → Result
  -- refusal, cycle, the entries of the cards, the record
  saved : ℕ → ℕ → List ℕ → Saver → Result
  -- refusal, the record, memory
  dock : ℕ → Dock → List ℕ → Result

abbrev of_ticket : TicketAnswer → Result
of_ticket a = ticket a.refusal a.edition a.mode a.cards a.pool a.frames

abbrev of_plan : PlanAnswer → List ℕ → Result
of_plan a buffer = plan a.refusal a.cycles.0 buffer

abbrev of_join : JoinAnswer → List ℕ → Result
of_join a buffer = joined_ticket a.refusal a.bytes buffer

abbrev of_hub : HubAnswer → List ℕ → Result
of_hub a buffer = gathered a.refusal a.frames buffer

abbrev of_check : CheckAnswer → Result
of_check a = verdict a.refusal a.verdict a.position.0 a.cycles.0 a.peak

abbrev of_run : RunAnswer → Result
of_run a = run a.refusal a.broken a.complete a.delivered a.ended.0 a.needed.0 a.peak

abbrev of_line : Part → ℕ → Result
of_line a number = part a.offset a.length number

abbrev of_counts : CountsAnswer → Result
of_counts a = card_counts a.refusal a.frames

abbrev of_saver : SaverAnswer → Result
of_saver a = saved a.refusal a.cycle.0 (map (λ p. p.0) a.written) a.saver

-- a dock's call; beside a refusal stands the dock that the caller has
abbrev of_dock : Dock → Told Dock ℕ → List ℕ → Result
of_dock before (Ok d) memory = dock 0 d memory
of_dock before (Err k) memory = dock k before memory

-- two tickets joined, in a buffer
abbrev join_result : Outcome → List ℕ → Result
join_result join buffer = of_join (join_answer (numbers_of_join (answer_of join (length buffer)))) (joined_into join buffer)

abbrev pub result_of : Call → Result
result_of (parse_ticket t) = of_ticket (ticket_answer (numbers_in (parse t)))
result_of (plan_ticket t buffer) = of_plan (plan_answer (numbers_of_plan (plan_of (parse t) (length buffer)))) (buffer_after (parse t) buffer)
result_of (print_plan t buffer) = text (bytes_in (printed t) (length buffer)) (text_after (printed t) buffer)
result_of (join_first t other buffer) = join_result (join_of t other) buffer
result_of (join_second t other buffer) = join_result (join_of other t) buffer
result_of (gather chosen cameras buffer) =
    of_hub (hub_answer (numbers_of_hub (gathered_of chosen cameras (length buffer)))) (gathered_into chosen cameras buffer)
result_of (check_plan t cycles) = of_check (check_answer (numbers_of_check (check_of (parse t) cycles)))
result_of (run_plan t cycles) = of_run (run_answer (numbers_of_run (ran_of (parse t) cycles)))
result_of (line t p) = of_line (line_part t p) (line_refusal_of (parse t) p)
result_of (counts t) = of_counts (counts_answer (parse t))
result_of (new_saver cards pool) = of_saver (new_of cards pool)
result_of (save s card) = of_saver (save_of s card)
result_of (close s) = of_saver (close_of s)
result_of (start_dock t memory) = of_dock (new_dock 0 0) (start_of (parse t) (length memory)) (memory_started (parse t) memory)
result_of (drive_dock d memory step) = of_dock d (drive_of d memory step) (memory_driven d memory step)
