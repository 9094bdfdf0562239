-- The public theorems about `plan`, each proved in a module of its own. The contract of `plan` (src/lib.rt) states demand 3 for each call.
-- Assumes nothing.
use Prim.Native.Nat.{ℕ, ◌≤◌}
use mathlib.Core.Path.{◌≡◌}
use mathlib.Core.List.{List, ◌∷◌, ◌++◌, map}
use lib.ListN.{length}
use Rattle.schedule.specs.Cases.{expected, cases}
use Rattle.schedule.specs.OneFrame.{AtMostOneApart, NoneOrOneMore}
use Rattle.schedule.proofs.Main.{insert_read, insert_save, change_read, change_save}
use Rattle.header.specs.declared.Header.{Header}
use Rattle.ticket.specs.Ticket.{accepted, parse}
use Rattle.ticket.proofs.Main.{accepted_pool}
use Rattle.planner.specs.Plan.{Answered}
use Rattle.planner.specs.Numbers.{numbers_of}
use Rattle.planner.specs.Demand3.{Demand3}
use Rattle.planner.specs.Cases.{asked}
use Rattle.planner.specs.OneFrame.{Alike, Planning}
use Rattle.planner.specs.OneFrame as shifted
use Rattle.std.specs.Prelude.{Result}
use Rattle.counting.specs.declared.Cycle.{Cycle}
use Rattle.planner.proofs.Cases as table
use Rattle.planner.proofs.Demand as demand
use Rattle.planner.proofs.OneFrame.{two_calls}
use Rattle.planner.proofs.OneFrame as one-frame

-- Every answer that equals the definitions of specs/Plan.antt, for whichever ticket and buffer, meets demand 3.
pub demand_3 : (t before after : List ℕ) (r : Result Cycle ℕ) → Answered (parse t) before after r
    → Demand3 t (numbers_of r).refusal (numbers_of r).cycles.0 after
demand_3 = demand.demand_3

-- The starred plans of document 01 hold of a call that is given the ticket that asks for them, and so do the table's other plans.
pub plans_hold : map asked cases ≡ map expected cases
plans_hold = table.plans_hold

-- One frame (request 2026-08): two accepted tickets, of whichever texts and editions, of one mode, read or full save, and one pool. Their lists have the
-- same frames before and behind one.
module _ (t u : List ℕ) (h g : Header) (before behind : List ℕ) where
  -- "with cards, pool and the other frames equal, changing one frame's card moves the fewest cycles by at most one": with a place for each frame in both
  -- buffers, `plan` answers both tickets with a T, and the two are at most one apart, whichever is the larger.
  pub card_changed :
      (card other : ℕ) → parse t ≡ accepted h (before ++ (card ∷ behind)) → parse u ≡ accepted g (before ++ (other ∷ behind)) → Alike h g
      → (p q : ℕ) → length (before ++ (card ∷ behind)) ≤ p → length (before ++ (other ∷ behind)) ≤ q → Planning t u p q AtMostOneApart
  card_changed card other e f alike p q room room' =
      let pool : 1 ≤ h.pool = (accepted_pool t h (before ++ (card ∷ behind)) e).0 in
      two_calls AtMostOneApart t u h g (before ++ (card ∷ behind)) (before ++ (other ∷ behind)) e f alike p q room room'
      (change_read h.pool before behind pool card other) (change_save h.pool before behind pool card other)

  -- "Adding one frame anywhere adds none or one": the T of the second ticket, whose list has a frame more, is the first's or one more.
  pub frame_added :
      (card : ℕ) → parse t ≡ accepted h (before ++ behind) → parse u ≡ accepted g (before ++ (card ∷ behind)) → Alike h g
      → (p q : ℕ) → length (before ++ behind) ≤ p → length (before ++ (card ∷ behind)) ≤ q → Planning t u p q NoneOrOneMore
  frame_added card e f alike p q room room' =
      let pool : 1 ≤ h.pool = (accepted_pool t h (before ++ behind) e).0 in
      two_calls NoneOrOneMore t u h g (before ++ behind) (before ++ (card ∷ behind)) e f alike p q room room'
      (insert_read h.pool before behind pool card) (insert_save h.pool before behind pool card)

-- Each bound is met, and neither holds of two frames.
pub examples_hold : map shifted.asked shifted.examples ≡ map shifted.expected shifted.examples
examples_hold = one-frame.examples_hold
