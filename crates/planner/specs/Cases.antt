-- The plans of the table of cases (crates/schedule/specs/Cases.antt: the starred plans of document 01, and a list on which a well-known
-- library takes a cycle more), asked for by tickets: what `plan` answers and leaves. proofs/Cases.antt proves them by computing.
-- Assumes nothing.
use Rattle.std.specs.Prelude.{ℕ, cond, List, eqb, length}
use Rattle.schedule.specs.Cases.{Answer, Case, ◌gives◌, plan, read_plan, save_plan, keep_plan, drive, peak_of, check_read, check_save, most}
use Rattle.header.specs.Limits.{mode_read, mode_save, mode_save_and_keep}
use Rattle.ticket.specs.Ticket.{Parsed, parse, zeros}
use Rattle.ticket.specs.Print.{ticket_for}
use Rattle.planner.specs.Plan.{plan_of, buffer_after}
use Rattle.planner.specs.Numbers.{Numbers, numbers_of}

-- the buffer and T after a call; a refusal is none of the table's answers
abbrev told : Numbers → List ℕ → Answer
told n buffer = cond (eqb n.refusal 0) (plan buffer n.cycles.0) (most n.refusal)

abbrev after_call : Parsed → List ℕ → Answer
after_call p buffer = told (numbers_of (plan_of p (length buffer))) (buffer_after p buffer)

abbrev ask : ℕ → ℕ → List ℕ → Answer
ask mode m cards = after_call (parse (ticket_for mode m cards)) (zeros (length cards))

-- the T that `plan` answers for the edition 01 ticket of a list, 0 for a refusal
abbrev pub answered_for : ℕ → ℕ → List ℕ → ℕ
answered_for mode m cards = (numbers_of (plan_of (parse (ticket_for mode m cards)) (length cards))).cycles.0

-- a plan of the table, asked for; the other cases are not about plans
abbrev pub asked : Case → Answer
asked (read_plan m cards gives a) = ask mode_read m cards
asked (save_plan m cards gives a) = ask mode_save m cards
asked (keep_plan m cards gives a) = ask mode_save_and_keep m cards
asked (drive m cards steps gives a) = a
asked (peak_of m cards steps gives a) = a
asked (check_read m cards cycles gives a) = a
asked (check_save m cards cycles gives a) = a
