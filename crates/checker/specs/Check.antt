-- What `check` answers, for every ticket and every plan (document 01, "The checker and the saver"). The verdicts are those of
-- crates/schedule/specs/Verdict.antt.
-- Assumes nothing.
use Rattle.std.specs.Prelude.{ℕ, Bool, true, false, cond, List, eqb, length}
use Rattle.schedule.specs.Verdict.{Fault, no_cycle, shared_card, overfull, valid, faulty, verdict_on_read, verdict_on_save}
use Rattle.schedule.specs.Verdict as theory
use Rattle.header.specs.Limits.{mode_save, mode_save_and_keep}
use Rattle.ticket.specs.Ticket.{Parsed, accepted, refused}
use Rattle.std.specs.Prelude.{Result, Ok, Err}
use Rattle.checker.specs.declared.Verdict.{Verdict}
use Rattle.checker.specs.declared.Verdict.TheVariants.{Valid, NoCycle, SharedCard, Overfull}

-- a verdict in the code's words
abbrev pub at_fault : ℕ → Fault → Verdict
at_fault i no_cycle = NoCycle (record { 0 = i })
at_fault i shared_card = SharedCard (record { 0 = i })
at_fault i overfull = Overfull (record { 0 = i })

abbrev pub answer_of : theory.Verdict → Verdict
answer_of (valid T peak) = Valid (record { 0 = T }) peak
answer_of (faulty i fault) = at_fault i fault

-- the verdict on a save plan, or on a read plan
abbrev pub verdict_on : Bool → ℕ → List ℕ → List ℕ → theory.Verdict
verdict_on true m cards cycles = verdict_on_save m cards cycles
verdict_on false m cards cycles = verdict_on_read m cards cycles

-- "1 to 9, then 12 before 11": the ticket's own refusals, 17 among them, then mode 02, and a plan that has not exactly L cycles
unfoldable pub check_of : Parsed → List ℕ → Result Verdict ℕ
check_of (accepted h cards) cycles =
    cond (eqb h.mode mode_save_and_keep) (Err 12)
    (cond (eqb (length cycles) (length cards)) (Ok (answer_of (verdict_on (eqb h.mode mode_save) h.pool cards cycles))) (Err 11))
check_of (refused k) cycles = Err k
