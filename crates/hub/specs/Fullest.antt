-- What request 2026-06 promises of the hub's cards: of what `plan` answers for a ticket with that list, and about one call of `gather`.
-- Assumes nothing.
use Rattle.std.specs.Prelude.{ℕ, ◌+◌, ◌*◌, ◌≤◌, ◌<◌, ◌≡◌, List, [], ◌⊎◌, length, take}
use Rattle.counting.specs.Frames.{card_of}
use Rattle.schedule.specs.Loads.{fullest}
use Rattle.header.specs.Editions.{edition1}
use Rattle.header.specs.Limits.{mode_read, mode_save}
use Rattle.header.specs.declared.Header.{Header}
use Rattle.ticket.specs.Print.{ticket_text}
use Rattle.ticket.specs.Ticket.{accepted, parse}
use Rattle.planner.specs.Plan.{plan_of}
use Rattle.std.specs.Prelude.{Ok}
use Rattle.hub.specs.Patterns.{hub_size}

-- "both read and full save"
abbrev pub ReadOrSave : Header → Type 0
ReadOrSave h = (h.mode ≡ mode_read) ⊎ (h.mode ≡ mode_save)

-- The edition 01 ticket of eight cards that has this list.
abbrev pub hub_header : ℕ → ℕ → List ℕ → Header
hub_header mode pool cards = record { edition = edition1; mode = mode; cards = hub_size; pool = pool; frames = length cards }

abbrev pub hub_ticket : ℕ → ℕ → List ℕ → List ℕ
hub_ticket mode pool cards = ticket_text (hub_header mode pool cards) cards []

-- S cameras, and the cards of their frames.
pub record TakesFullest (S : ℕ) (cards : List ℕ) : Type 0 where
  -- "With S cameras, L frames and a pool above 7 × S, both read and full save take exactly the load of the fullest card": this T is what `plan` answers
  -- for every ticket, of whichever text, that has this list and such a pool, with every buffer that has a place for each frame.
  pub exactly :
      (text : List ℕ) (h : Header) → parse text ≡ accepted h cards → ReadOrSave h → 7 * S < h.pool
      → (places : ℕ) → length cards ≤ places → plan_of (parse text) places ≡ Ok (record { 0 = fullest hub_size cards })
  -- "and 8 × T is at most L + 7 × S"
  pub at_most : 8 * fullest hub_size cards ≤ length cards + 7 * S

-- The request about one call of `gather`: the patterns of the cameras, the numbers of the answer (a refusal's, 0 for none, and how many cards were given),
-- and the buffer after the call.
pub record Gathering (chosen : List ℕ) (refusal frames : ℕ) (buffer : List ℕ) : Type 0 where
  -- The cards given are the hub's, so a ticket of eight cards has them all.
  pub inside_hub : refusal ≡ 0 → (i : ℕ) → i < frames → card_of buffer i < hub_size
  pub takes_fullest : refusal ≡ 0 → TakesFullest (length chosen) (take frames buffer)
