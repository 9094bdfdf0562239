-- The verdicts of the table of cases (crates/schedule/specs/Cases.antt: the starred ones of document 01 among them), asked for by tickets:
-- what `check` answers. proofs/Cases.antt proves them by computing.
-- Assumes nothing.
use Rattle.schedule.specs.Cases.{Answer, Case, ◌gives◌, plan, dock, most, verdict, read_plan, save_plan, keep_plan, drive, peak_of, check_read, check_save}
use Rattle.header.specs.Limits.{mode_read, mode_save}
use Rattle.ticket.specs.Ticket.{parse}
use Rattle.ticket.specs.Print.{ticket_for}
use Rattle.checker.specs.Check.{answer_of, check_of}
use Rattle.checker.specs.declared.Verdict.{Verdict}
use Rattle.std.specs.Prelude.{ℕ, Result, Ok, Err}

-- the answer that the table expects, in the code's words; an answer that is no verdict is no refusal either
abbrev pub told : Answer → Result Verdict ℕ
told (plan cycles T) = Err 0
told (dock outcome delivered held broken) = Err 0
told (most n) = Err 0
told (verdict v) = Ok (answer_of v)

-- a verdict of the table, asked for; the other cases are not about verdicts
abbrev pub asked : Case → Result Verdict ℕ
asked (read_plan m cards gives a) = told a
asked (save_plan m cards gives a) = told a
asked (keep_plan m cards gives a) = told a
asked (drive m cards steps gives a) = told a
asked (peak_of m cards steps gives a) = told a
asked (check_read m cards cycles gives a) = check_of (parse (ticket_for mode_read m cards)) cycles
asked (check_save m cards cycles gives a) = check_of (parse (ticket_for mode_save m cards)) cycles
