-- The answers of the C calls: the numbers of each answer of the calls below, as the structs of src/ hold them. Which number stands for what is said
-- by `Numbers` and `numbers_of` of the crate that gives the answer.
-- Assumes nothing.
use Rattle.std.specs.Prelude.{ℕ, List, length}
use Rattle.header.specs.Numbers as header
use Rattle.ticket.specs.Ticket.{Parsed, refusal_of, line_of, line_place, counts_of}
use Rattle.planner.specs.Numbers as planner
use Rattle.join.specs.Numbers as join
use Rattle.hub.specs.Numbers as hub
use Rattle.checker.specs.Numbers as checker
use Rattle.plan_run.specs.Numbers as replay
use Rattle.plain_answers.specs.declared.tickets.TicketAnswer.{TicketAnswer}
use Rattle.plain_answers.specs.declared.tickets.Part.{Part}
use Rattle.plain_answers.specs.declared.tickets.CountsAnswer.{CountsAnswer}
use Rattle.plain_answers.specs.declared.plans.PlanAnswer.{PlanAnswer}
use Rattle.plain_answers.specs.declared.joins.JoinAnswer.{JoinAnswer}
use Rattle.plain_answers.specs.declared.hubs.HubAnswer.{HubAnswer}
use Rattle.plain_answers.specs.declared.checks.CheckAnswer.{CheckAnswer}
use Rattle.plain_answers.specs.declared.checks.RunAnswer.{RunAnswer}

-- what the header of a ticket says
abbrev pub ticket_answer : header.Numbers → TicketAnswer
ticket_answer n =
    record { refusal = n.refusal; edition = n.edition; mode = n.mode; cards = n.cards; pool = n.pool; frames = n.frames }

-- "that frame's line as a part of the caller's own ticket": the byte at which it begins, and its length; both 0 with a refusal
abbrev pub line_part : List ℕ → ℕ → Part
line_part t p = record { offset = line_place t p; length = length (line_of t p) }

-- "A count of frames for each of the 32 cards"
abbrev pub counts_answer : Parsed → CountsAnswer
counts_answer p = record { refusal = refusal_of p; frames = counts_of p }

-- T of a plan
abbrev pub plan_answer : planner.Numbers → PlanAnswer
plan_answer n = record { refusal = n.refusal; cycles = n.cycles }

-- the bytes of a joined ticket
abbrev pub join_answer : join.Numbers → JoinAnswer
join_answer n = record { refusal = n.refusal; bytes = n.bytes }

-- how many cards the hub gave
abbrev pub hub_answer : hub.Numbers → HubAnswer
hub_answer n = record { refusal = n.refusal; frames = n.frames }

-- a verdict by its number, with the position at fault, T and the peak
abbrev pub check_answer : checker.Numbers → CheckAnswer
check_answer n = record { refusal = n.refusal; verdict = n.verdict; position = n.position; cycles = n.cycles; peak = n.peak }

-- a plan's run
abbrev pub run_answer : replay.Numbers → RunAnswer
run_answer n =
    record {
      refusal = n.refusal;
      broken = n.broken;
      complete = n.complete;
      delivered = n.delivered;
      ended = n.ended;
      needed = n.needed;
      peak = n.peak;
    }
