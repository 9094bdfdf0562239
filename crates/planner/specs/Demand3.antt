-- Demand 3 about one call of `plan`, for docks of 1 to 192 buffers: the ticket's text, the numbers of the answer (a refusal's, 0 for none, and T),
-- and the buffer after the call.
-- `ReadDemand` and `SaveDemand` (crates/schedule/specs/Demand.antt) are the two sentences of the demand.
-- Assumes nothing.
use Rattle.std.specs.Prelude.{ℕ, ◌≤◌, ◌≡◌, List, length, take}
use Rattle.schedule.specs.Demand.{SaveDemand, ReadDemand}
use Rattle.header.specs.Limits.{mode_read, mode_save, max_pool, Within}
use Rattle.header.specs.declared.Header.{Header}
use Rattle.ticket.specs.Ticket.{accepted, parse}

pub record Demand3 (text : List ℕ) (refusal T : ℕ) (buffer : List ℕ) : Type 0 where
  -- Request 2026-07, "The fewest-cycle statement is about docks of this range": the pool of every accepted ticket is one of 1 to 192 buffers.
  pub dock_range : (h : Header) (cards : List ℕ) → parse text ≡ accepted h cards → Within max_pool h.pool
  -- For every accepted read ticket and a buffer with room for it: the plan that now stands in the buffer, driven on the dock, breaks no
  -- rule, hands over everything in exactly the T answered and never holds more than the pool; and EVERY list of reads, drops and ends
  -- that hands everything over needs T cycles or more.
  pub read_plan :
      (h : Header) (cards : List ℕ) → parse text ≡ accepted h cards → h.mode ≡ mode_read → length cards ≤ length buffer
      → (refusal ≡ 0) × ReadDemand h.pool cards (take (length cards) buffer) T
  -- For every accepted save ticket and a buffer with room for it: the plan that now stands in the buffer is a correct schedule of the T
  -- cycles answered, and every correct schedule is at least as long.
  pub save_plan :
      (h : Header) (cards : List ℕ) → parse text ≡ accepted h cards → h.mode ≡ mode_save → length cards ≤ length buffer
      → (refusal ≡ 0) × SaveDemand h.pool cards (take (length cards) buffer) T
