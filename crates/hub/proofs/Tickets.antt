-- Tickets with the hub's cards: that there are some, what demand 3 says of them, and their counts.
-- Assumes nothing.
use Prim.Native.Nat.{ℕ, ◌*◌, ◌≤◌, ◌<◌}
use mathlib.Core.Path.{◌≡◌, refl}
use mathlib.Core.List.{List}
use mathlib.Core.Logic.{inl}
use native.Mathlib.Omega.{arith}
use lib.ListN.{length}
use Rattle.counting.specs.Count.{largest}
use Rattle.counting.specs.Frames.{card_of}
use Rattle.schedule.specs.Loads.{fullest}
use Rattle.schedule.proofs.Main.{fullest_wider}
use Rattle.header.specs.Limits.{Within, mode_save, max_cards, max_pool, max_frames}
use Rattle.header.specs.declared.Header.{Header}
use Rattle.ticket.specs.Ticket.{accepted, parse, counts_of}
use Rattle.ticket.proofs.Main.{written_edition_1}
use Rattle.planner.specs.Demand3.{Demand3}
use Rattle.hub.specs.Fullest.{ReadOrSave, hub_header, hub_ticket}
use Rattle.hub.specs.Gather.{hub_cards}
use Rattle.hub.specs.Grounds.{Known, Seen}
use Rattle.hub.specs.Patterns.{hub_size}
use Rattle.hub.proofs.Even.{inside_hub}
use Rattle.hub.proofs.Fullest.{demand_fullest}
use Rattle.hub.proofs.Refusals.{as_many}

module _ (chosen cameras : List ℕ) (known : Known chosen) (seen : Seen chosen cameras) where
  abbrev cards : List ℕ
  cards = hub_cards chosen cameras

  low : (i : ℕ) → i < length cards → card_of cards i < hub_size
  low = inside_hub chosen cameras known seen

  pub hub_ticket_is :
      (mode pool : ℕ) → mode ≤ mode_save → Within max_pool pool → length cameras ≤ max_frames
      → parse (hub_ticket mode pool cards) ≡ accepted (hub_header mode pool cards) cards
  hub_ticket_is mode pool m p few =
      written_edition_1 (hub_header mode pool cards) cards refl
      (record {
        edition = inl refl;
        mode = omega arith;
        card_range = (omega arith, omega arith);
        pool = p;
        frames = refl;
        few = omega (arith, as_many chosen cameras);
        each_card = low;
      })

  pub hub_demand :
      (text : List ℕ) (h : Header) → parse text ≡ accepted h cards → ReadOrSave h → 7 * length chosen < h.pool
      → (refusal T : ℕ) (buffer : List ℕ) → Demand3 text refusal T buffer → length cameras ≤ length buffer
      → (refusal ≡ 0) × (T ≡ fullest hub_size cards)
  hub_demand text h e mode room refusal T buffer d l =
      demand_fullest chosen cameras known seen text h e mode room refusal T buffer d (omega (arith, as_many chosen cameras))

  pub hub_counts : (text : List ℕ) (h : Header) → parse text ≡ accepted h cards → largest (counts_of (parse text)) ≡ fullest hub_size cards
  hub_counts text h e = rw e (fullest_wider hub_size max_cards cards (omega arith) low)
