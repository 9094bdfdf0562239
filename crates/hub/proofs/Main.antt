-- The public theorems about the hub, each proved in a module of its own. The contract of `gather` (src/lib.rt) states the same for each call: the answer,
-- the buffer afterwards, and what request 2026-06 promises of the cards (specs/Fullest.antt).
-- Assumes nothing.
use Prim.Native.Nat.{ℕ, suc, ◌+◌, ◌*◌, ◌/◌, ◌≤◌, ◌<◌}
use mathlib.Core.Path.{◌≡◌}
use mathlib.Core.List.{List, reverse, map}
use lib.ListN.{length}
use Rattle.counting.specs.Count.{largest}
use Rattle.schedule.specs.Loads.{fullest, Even}
use Rattle.header.specs.Limits.{Within, mode_save, max_pool, max_frames}
use Rattle.header.specs.declared.Header.{Header}
use Rattle.ticket.specs.Ticket.{accepted, parse, counts_of}
use Rattle.planner.specs.Demand3.{Demand3}
use Rattle.hub.specs.Cases.{Case, told, asked, expected, card_cases, tight_cases}
use Rattle.hub.specs.Fullest.{ReadOrSave, hub_header, hub_ticket, TakesFullest, Gathering}
use Rattle.hub.specs.Gather.{hub_cards, answer_for, Answered}
use Rattle.hub.specs.Grounds.{Known, Seen, Says}
use Rattle.hub.specs.Numbers.{numbers_of}
use Rattle.hub.specs.Patterns.{hub_size, pattern_card, NamesEvery, visits}
use Rattle.std.specs.Prelude.{Result}
use Rattle.hub.proofs.Calls as calls
use Rattle.hub.proofs.Cases as table
use Rattle.hub.proofs.Even as even
use Rattle.hub.proofs.Fullest as fullests
use Rattle.hub.proofs.Named as patterns
use Rattle.hub.proofs.Refusals as refusals
use Rattle.hub.proofs.Tickets as tickets

-- Every call is answered as the rows of the grounds say (specs/Grounds.antt), on exactly the stated conditions and in the stated order; and an answer that
-- fits the rows is the call's.
module _ (chosen cameras : List ℕ) (places : ℕ) where
  pub gather_says : Says chosen cameras places (answer_for chosen cameras places)
  gather_says = refusals.says chosen cameras places

  pub gather_only : (r : Result ℕ ℕ) → Says chosen cameras places r → r ≡ answer_for chosen cameras places
  gather_only = refusals.says_only chosen cameras places

-- Every answer that equals the definitions of specs/Gather.antt, for whichever patterns, cameras and buffer, keeps the request's promises about the cards
-- that now stand in the buffer.
pub gather_keeps : (chosen cameras before after : List ℕ) (r : Result ℕ ℕ) → Answered chosen cameras before after r
    → Gathering chosen (numbers_of r).refusal (numbers_of r).frames after
gather_keeps = calls.gathering

-- "each is proved to name every card": only the hub's cards, and each of them once;
pub patterns_name : (p : ℕ) → p < hub_size → NamesEvery (pattern_card p)
patterns_name = patterns.patterns_name

-- so every card stands at a place.
pub card_named : (p c : ℕ) → p < hub_size → c < hub_size → (k : ℕ) × (k < hub_size) × (pattern_card p k ≡ c)
card_named p c l h = patterns.card_named (pattern_card p) (patterns_name p l) c h

-- Of any w frames of a camera, one after the other, w / 8 or one more are on card c.
pub camera_window : (card : ℕ → ℕ) → NamesEvery card → (c : ℕ) → c < hub_size → (u w : ℕ)
    → (visits card c u + w / 8 ≤ visits card c (u + w)) × (visits card c (u + w) ≤ suc (visits card c u + w / 8))
camera_window = even.window

-- Cameras that are known, in whichever order their frames come.
module _ (chosen cameras : List ℕ) (known : Known chosen) (seen : Seen chosen cameras) where
  -- In every first part of the list, and in every last part, the loads of two cards differ by at most the number of cameras.
  pub hub_even : Even hub_size (length chosen) (hub_cards chosen cameras) × Even hub_size (length chosen) (reverse (hub_cards chosen cameras))
  hub_even = (even.even_first chosen cameras known seen, even.even_last chosen cameras known seen)

  -- "With S cameras, L frames and a pool above 7 × S, both read and full save take exactly the load of the fullest card, and 8 × T is at most L + 7 × S":
  -- of what `plan` answers.
  pub hub_takes : TakesFullest (length chosen) (hub_cards chosen cameras)
  hub_takes = fullests.takes_fullest chosen cameras known seen

  -- It follows from the planner's contract alone: the same holds of any number of a refusal, T and buffer that demand 3 is kept by.
  pub hub_demand :
      (text : List ℕ) (h : Header) → parse text ≡ accepted h (hub_cards chosen cameras) → ReadOrSave h → 7 * length chosen < h.pool
      → (refusal T : ℕ) (buffer : List ℕ) → Demand3 text refusal T buffer → length cameras ≤ length buffer
      → (refusal ≡ 0) × (T ≡ fullest hub_size (hub_cards chosen cameras))
  hub_demand = tickets.hub_demand chosen cameras known seen

  -- Such tickets there are: the cards are accepted as an edition 01 ticket of eight cards, for a read and a save and every pool that a ticket can have.
  pub hub_ticket_is :
      (mode pool : ℕ) → mode ≤ mode_save → Within max_pool pool → length cameras ≤ max_frames
      → parse (hub_ticket mode pool (hub_cards chosen cameras)) ≡ accepted (hub_header mode pool (hub_cards chosen cameras)) (hub_cards chosen cameras)
  hub_ticket_is = tickets.hub_ticket_is chosen cameras known seen

  -- The load of the fullest card is the largest of the 32 counts that `counts` answers for such a ticket.
  pub hub_counts :
      (text : List ℕ) (h : Header) → parse text ≡ accepted h (hub_cards chosen cameras)
      → largest (counts_of (parse text)) ≡ fullest hub_size (hub_cards chosen cameras)
  hub_counts = tickets.hub_counts chosen cameras known seen

-- Cards of some lists, and how tight the promise is: with a pool of 7 × S a read and a save can take one cycle more
-- than the load of the fullest card, for each number of cameras; and 8 × T = L + 7 × S is met.
pub cards_hold : map (λ (x : Case). told (asked x)) card_cases ≡ map expected card_cases
cards_hold = table.cards_hold

pub tight_hold : map (λ (x : Case). told (asked x)) tight_cases ≡ map expected tight_cases
tight_hold = table.tight_hold
