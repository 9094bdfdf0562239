-- What a call answers depends on what its ticket is read as, its seconds among it, and on nothing else of the text. Calls that do not tell the
-- edition depend on mode, cards, pool and list alone.
-- Assumes nothing.
use Prim.Native.Nat.{ℕ, ◌+◌, ◌*◌}
use mathlib.Core.Bool.{false, true≢false}
use mathlib.Core.Path.{◌≡◌, refl, sym, ap, ◌∙◌}
use mathlib.Core.List.{List}
use mathlib.Core.Logic.{inl}
use native.Mathlib.Decide.{ℕ_discrete}
use lib.ListN.{length}
use Rattle.ticket.specs.Grounds.{Fits}
use Rattle.ticket.specs.Print.{as_edition1}
use Rattle.ticket.specs.Seconds.{seconds_of}
use Rattle.ticket.specs.Ticket.{Parsed, accepted, parse, line_refusal_of, line_of, line_place}
use Rattle.ticket.proofs.Accepted.{as_many}
use Rattle.planner.specs.Plan.{plan_of, buffer_after}
use Rattle.join.specs.Join.{join_of}
use Rattle.checker.specs.Check.{check_of}
use Rattle.plan_run.specs.Run.{ran_of}
use Rattle.printing.specs.Printed.{text_of}
use Rattle.dock_start.specs.Start.{start_of, memory_started}
use Rattle.header.specs.Editions.{line_digits, line_bytes}
use Rattle.header.specs.Heading.{header_bytes}
use Rattle.header.specs.declared.Header.{Header}
use Rattle.ticket.proofs.Answers.{no_line, no_place, its_place, line_length, same_edition}
use Rattle.firmware.specs.Calls.{Call, parse_ticket, plan_ticket, print_plan, join_first, join_second, gather, check_plan, run_plan, line, counts}
use Rattle.firmware.specs.Calls.{new_saver, save, close, start_dock, drive_dock, with_ticket, tells_edition, result_of}

module _ (s t : List ℕ) (e : parse s ≡ parse t) (x : seconds_of s ≡ seconds_of t) where
  number_alike : (p : ℕ) → line_refusal_of (parse s) p ≡ line_refusal_of (parse t) p
  number_alike p = ap (λ (x : Parsed). line_refusal_of x p) e

  -- a line has the same place and length, whichever the bytes
  place_alike : (p : ℕ) → line_place s p ≡ line_place t p
  place_alike p =
      elim (ℕ_discrete (line_refusal_of (parse t) p) 0) [
        | yes z ↦
            sym (its_place s p (sym (number_alike p ∙ z)))
            ∙ ap (λ (k : ℕ). header_bytes + line_bytes k * p) (same_edition s t p e (sym z))
            ∙ its_place t p (sym z)
        | no n ↦ sym (no_place s p (sym (number_alike p)) n) ∙ no_place t p refl n
      ]

  length_alike : (p : ℕ) → length (line_of s p) ≡ length (line_of t p)
  length_alike p =
      elim (ℕ_discrete (line_refusal_of (parse t) p) 0) [
        | yes z ↦
            line_length s p (sym (number_alike p ∙ z))
            ∙ ap line_digits (same_edition s t p e (sym z))
            ∙ sym (line_length t p (sym z))
        | no n ↦ ap length (sym (no_line s p (sym (number_alike p)) n) ∙ no_line t p refl n)
      ]

  -- a join, with the ticket as its first one or as its second
  first_alike : (other : List ℕ) → join_of s other ≡ join_of t other
  unfolding join_of
  first_alike other = rw (e, x)

  second_alike : (other : List ℕ) → join_of other s ≡ join_of other t
  unfolding join_of
  second_alike other = rw (e, x)

  pub alike : (c : Call) → result_of (with_ticket s c) ≡ result_of (with_ticket t c)
  alike (parse_ticket _) = rw e
  alike (plan_ticket _ buffer) = rw e
  alike (print_plan _ buffer) = rw e
  alike (join_first _ other buffer) = rw (first_alike other)
  alike (join_second _ other buffer) = rw (second_alike other)
  alike (gather chosen cameras buffer) = refl
  alike (check_plan _ cycles) = rw e
  alike (run_plan _ cycles) = rw e
  alike (line _ p) = rw (e, place_alike p, length_alike p)
  alike (counts _) = rw e
  alike (new_saver cards pool) = refl
  alike (save saver card) = refl
  alike (close saver) = refl
  alike (start_dock _ memory) = rw e
  alike (drive_dock d memory step) = refl

-- accepted tickets with the same mode, cards, pool and list, whatever their editions
module _
    (s t : List ℕ) (g h : Header) (cards : List ℕ) (e : parse s ≡ accepted g cards) (f : parse t ≡ accepted h cards)
    (mode : g.mode ≡ h.mode) (range : g.cards ≡ h.cards) (pool : g.pool ≡ h.pool) where
  frames : g.frames ≡ h.frames
  frames = sym (as_many s g cards e) ∙ as_many t h cards f

  but_edition : g ≡ record { edition = g.edition; mode = h.mode; cards = h.cards; pool = h.pool; frames = h.frames }
  but_edition = rw (← mode, ← range, ← pool, ← frames)

  pub no_say : (c : Call) → tells_edition c ≡ false → result_of (with_ticket s c) ≡ result_of (with_ticket t c)
  unfolding plan_of buffer_after check_of ran_of text_of start_of memory_started
  no_say (parse_ticket _) q = absurd (true≢false q)
  no_say (plan_ticket _ buffer) q = rw (e, f, but_edition)
  no_say (print_plan _ buffer) q = rw (e, f, but_edition)
  no_say (join_first _ other buffer) q = absurd (true≢false q)
  no_say (join_second _ other buffer) q = absurd (true≢false q)
  no_say (gather chosen cameras buffer) q = refl
  no_say (check_plan _ cycles) q = rw (e, f, but_edition)
  no_say (run_plan _ cycles) q = rw (e, f, but_edition)
  no_say (line _ p) q = absurd (true≢false q)
  no_say (counts _) q = rw (e, f)
  no_say (new_saver cards pool) q = refl
  no_say (save saver card) q = refl
  no_say (close saver) q = refl
  no_say (start_dock _ memory) q = rw (e, f, but_edition)
  no_say (drive_dock d memory step) q = refl

-- the same list as an edition 01 ticket fits too
pub fits_first : (h : Header) (cards : List ℕ) → Fits h cards → Fits (as_edition1 h) cards
fits_first h cards f =
    record {
      edition = inl refl;
      mode = f.mode;
      card_range = f.card_range;
      pool = f.pool;
      frames = f.frames;
      few = f.few;
      each_card = f.each_card;
    }
