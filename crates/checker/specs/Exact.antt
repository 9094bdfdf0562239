-- What one call of `check` says: "The checker accepts a plan exactly when it meets that paper's conditions" (demand 2), "it names the lowest
-- position at fault, and of its faults the first" (document 01), and what the peak tells (request 2026-05). The conditions are `CorrectRead`,
-- `CorrectSave` and `Proper` of crates/schedule/specs/Schedule.antt; `Named` of Verdict.antt there states the faults in plain conditions, and
-- `buffers_needed` of Drive.antt is the peak of a plan's run on a dock with a buffer for every frame.
-- Assumes nothing.
use Rattle.std.specs.Prelude.{ℕ, ◌≤◌, ◌≡◌, ◌≢◌, List}
use Rattle.schedule.specs.Schedule.{o_backlog, i_backlog, Proper, CorrectSave, CorrectRead}
use Rattle.schedule.specs.Drive.{buffers_needed}
use Rattle.schedule.specs.Verdict.{Fault, Named}
use Rattle.header.specs.Limits.{mode_read, mode_save}
use Rattle.header.specs.declared.Header.{Header}
use Rattle.ticket.specs.Ticket.{accepted, parse}
use Rattle.checker.specs.Numbers.{valid_number, fault_number}

-- the ticket's text, the plan, and of the answer the verdict's number, the position and the peak
pub record Exact (text cycles : List ℕ) (verdict position peak : ℕ) : Type 0 where
  -- a read ticket: the plan is called valid just when it is a correct read schedule
  pub read_plan :
      (h : Header) (cards : List ℕ) → parse text ≡ accepted h cards → h.mode ≡ mode_read
      → (verdict ≡ valid_number → CorrectRead h.pool cards cycles) × (CorrectRead h.pool cards cycles → verdict ≡ valid_number)
  -- and where a fault is named, the position is the lowest at fault and the fault the first of its own
  pub read_fault :
      (h : Header) (cards : List ℕ) → parse text ≡ accepted h cards → h.mode ≡ mode_read
      → (f : Fault) → verdict ≡ fault_number f → Named i_backlog h.pool cards cycles position f
  -- a save ticket: the plan is called valid just when it is a correct save schedule
  pub save_plan :
      (h : Header) (cards : List ℕ) → parse text ≡ accepted h cards → h.mode ≡ mode_save
      → (verdict ≡ valid_number → CorrectSave h.pool cards cycles) × (CorrectSave h.pool cards cycles → verdict ≡ valid_number)
  -- and where a fault is named, the same
  pub save_fault :
      (h : Header) (cards : List ℕ) → parse text ≡ accepted h cards → h.mode ≡ mode_save
      → (f : Fault) → verdict ≡ fault_number f → Named o_backlog h.pool cards cycles position f
  -- "A read plan without cycle 0 or a shared card and cycle is then valid for pool m exactly when the peak of its run, on a dock with a buffer
  -- for every frame, is at most m"
  pub read_peak :
      (h : Header) (cards : List ℕ) → parse text ≡ accepted h cards → h.mode ≡ mode_read → Proper cards cycles
      → (verdict ≡ valid_number → buffers_needed cards cycles ≤ h.pool) × (buffers_needed cards cycles ≤ h.pool → verdict ≡ valid_number)
  -- the peak answered for a valid read plan is that one, and the smallest pool for which the plan is correct
  pub peak_answered :
      (h : Header) (cards : List ℕ) → parse text ≡ accepted h cards → h.mode ≡ mode_read → verdict ≡ valid_number → peak ≡ buffers_needed cards cycles
  pub smallest_pool :
      (h : Header) (cards : List ℕ) → parse text ≡ accepted h cards → h.mode ≡ mode_read → verdict ≡ valid_number
      → (m : ℕ) → (CorrectRead m cards cycles → peak ≤ m) × (peak ≤ m → CorrectRead m cards cycles)
  -- "the answer for a plan with a fault still shows 0", and so does a refusal
  pub no_peak : verdict ≢ valid_number → peak ≡ 0
