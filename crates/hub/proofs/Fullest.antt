-- What the hub's cards take, from the planner's contract alone: demand 3 leaves one T, and the cards are used evenly.
-- Assumes nothing.
use Prim.Native.Nat.{ℕ, ◌*◌, ◌≤◌, ◌<◌}
use mathlib.Core.Path.{◌≡◌, refl, ap, ◌∙◌}
use mathlib.Core.List.{List}
use mathlib.Core.Logic.{inl, inr}
use native.Mathlib.Omega.{arith}
use lib.Dec.{ltb}
use lib.ListN.{length, take, replicate, length-append, length-drop, length-replicate}
use borrow.Author.Tests.{le-ltb}
use Rattle.counting.specs.Frames.{card_of}
use Rattle.counting.proofs.Bits.{by_cases}
use Rattle.schedule.specs.Loads.{fullest}
use Rattle.schedule.proofs.Main.{even_save, even_read, even_bound, save_demand_T, read_demand_T}
use Rattle.header.specs.declared.Header.{Header}
use Rattle.ticket.specs.Ticket.{Parsed, accepted, refused, parse}
use Rattle.planner.specs.Plan.{plan_of, buffer_after}
use Rattle.planner.specs.Numbers.{numbers_of}
use Rattle.planner.specs.Demand3.{Demand3}
use Rattle.std.specs.Prelude.{Ok}
use Rattle.planner.proofs.Main.{demand_3}
use Rattle.hub.specs.Fullest.{ReadOrSave, TakesFullest}
use Rattle.hub.specs.Gather.{hub_cards}
use Rattle.hub.specs.Grounds.{Known, Seen}
use Rattle.hub.specs.Patterns.{hub_size}
use Rattle.hub.proofs.Even.{inside_hub, even_first, even_last}

-- what a call of `plan` leaves is as long as the buffer was
as_long : (p : Parsed) (before : List ℕ) → length before ≤ length (buffer_after p before)
unfolding buffer_after
as_long (accepted h cards) before =
    by_cases (ltb (length before) (length cards))
    (λ e. rw e (omega arith))
    (λ e. rw e (simp (length-append, length-drop) (omega arith)))
as_long (refused k) before = omega arith

module _ (chosen cameras : List ℕ) (known : Known chosen) (seen : Seen chosen cameras) where
  abbrev S : ℕ
  S = length chosen

  abbrev cards : List ℕ
  cards = hub_cards chosen cameras

  low : (i : ℕ) → i < length cards → card_of cards i < hub_size
  low = inside_hub chosen cameras known seen

  module _ (text : List ℕ) (h : Header) (e : parse text ≡ accepted h cards) (mode : ReadOrSave h) (room : 7 * S < h.pool) where
    -- of whatever numbers and buffer demand 3 holds
    pub demand_fullest :
        (refusal T : ℕ) (buffer : List ℕ) → Demand3 text refusal T buffer → length cards ≤ length buffer
        → (refusal ≡ 0) × (T ≡ fullest hub_size cards)
    demand_fullest refusal T buffer d l =
        let plan : List ℕ = take (length cards) buffer in
        let pool : 1 ≤ h.pool = omega arith in
        elim mode [
          | inl read ↦
              (let p = d.read_plan h cards e read l in (
                p.0,
                read_demand_T h.pool cards plan T pool p.1
                    ∙ even_read hub_size S h.pool cards low room (even_last chosen cameras known seen),
              ))
          | inr save ↦
              (let p = d.save_plan h cards e save l in (
                p.0,
                save_demand_T h.pool cards plan T pool p.1
                    ∙ even_save hub_size S h.pool cards low room (even_first chosen cameras known seen),
              ))
        ]

    module _ (places : ℕ) (enough : length cards ≤ places) where
      -- so of what `plan` answers,
      T-answered : (numbers_of (plan_of (parse text) places)).cycles.0 ≡ fullest hub_size cards
      T-answered =
          let before : List ℕ = replicate places 0 in
          let long : length before ≡ places = length-replicate places 0 in
          let d = demand_3 text before (buffer_after (parse text) before) (plan_of (parse text) (length before)) (record { answer = refl; buffer = refl }) in
          let there : length cards ≤ length (buffer_after (parse text) before) = omega (arith, as_long (parse text) before) in
          rw long at (demand_fullest _ _ _ d there).1

      -- which is a plan
      is_planned : plan_of (parse text) places ≡ Ok (numbers_of (plan_of (parse text) places)).cycles
      unfolding plan_of
      is_planned = rw (e, le-ltb places (length cards) enough)

      pub plan_fullest : plan_of (parse text) places ≡ Ok (record { 0 = fullest hub_size cards })
      plan_fullest = is_planned ∙ ap (λ (T : ℕ). Ok (record { 0 = T })) T-answered

  pub takes_fullest : TakesFullest S cards
  takes_fullest = record { exactly = plan_fullest; at_most = even_bound hub_size S cards low (even_first chosen cameras known seen) }
