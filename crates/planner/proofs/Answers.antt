-- What the parts of `plan` found, as the answer to the ticket.
-- Assumes nothing.
use Prim.Native.Nat.{ℕ, ◌≤◌, ◌<◌}
use mathlib.Core.Path.{refl}
use mathlib.Core.List.{List}
use native.Mathlib.Omega.{arith}
use lib.ListN.{length}
use borrow.Author.Tests.{lt-ltb, le-ltb}
use Rattle.header.specs.declared.Header.{Header}
use Rattle.ticket.specs.Ticket.{accepted, refused}
use Rattle.ticket.specs.Grounds.{Fits}
use Rattle.mode_plans.specs.Filled.{Filled}
use Rattle.mode_plans.specs.Plans.{plan_for}
use Rattle.planner.specs.Plan.{plan_of, buffer_after, Answered}
use Rattle.std.specs.Prelude.{Ok, Err}

-- a list that is read, and a buffer
module _ (h : Header) (cards before : List ℕ) (f : Fits h cards) where
  pub too_small : length before < h.frames → Answered (accepted h cards) before before (Err 10)
  unfolding plan_of buffer_after
  too_small l =
      let g : length before < length cards = omega (arith, f.frames) in
      record { answer = rw (lt-ltb (length before) (length cards) g); buffer = rw (lt-ltb (length before) (length cards) g) }

  module _ (l : h.frames ≤ length before) where
    pub planned :
        (after : List ℕ) (T : ℕ) → Filled (plan_for h.mode h.pool cards) before after T
        → Answered (accepted h cards) before after (Ok (record { 0 = T }))
    unfolding plan_of buffer_after
    planned after T p =
        let g : length cards ≤ length before = omega (arith, f.frames) in
        record {
          answer = rw (le-ltb (length before) (length cards) g, p.length_is);
          buffer = rw (le-ltb (length before) (length cards) g) p.buffer;
        }

-- a ticket that is refused
pub ticket_refused : (k : ℕ) (before : List ℕ) → Answered (refused k) before before (Err k)
unfolding plan_of buffer_after
ticket_refused k before = record { answer = refl; buffer = refl }
