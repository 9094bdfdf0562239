-- How far one frame shifts the T that `plan` answers, from the theorems of crates/schedule; and the examples, proved by computing.
-- Assumes nothing.
use Prim.Native.Nat.{ℕ, ◌≤◌}
use mathlib.Core.Path.{◌≡◌, refl}
use mathlib.Core.List.{List, map}
use mathlib.Core.Logic.{inl, inr}
use lib.ListN.{length}
use borrow.Author.Tests.{le-ltb}
use Rattle.schedule.specs.Greedy.{save_and_keep, greedy_writing, lazy_prefetching}
use Rattle.text.specs.Text.{digit, digits, number, is_line}
use Rattle.text.specs.Hex.{digit_of, hex}
use Rattle.header.specs.Editions.{known, second_digits}
use Rattle.header.specs.Heading.{header_of, within_limits, header_answer, heading}
use Rattle.header.specs.Limits.{ReadOrSave}
use Rattle.header.specs.declared.Header.{Header}
use Rattle.frame_lines.specs.Lines.{card_at, second_at, second_before, line_fault, lines_fault, part_fault}
use Rattle.ticket.specs.Ticket.{parse, accepted}
use Rattle.ticket.specs.Print.{line_texts, ticket_text}
use Rattle.mode_plans.specs.Plans.{plan_for}
use Rattle.mode_plans.proofs.Plans.{plan_read, plan_save}
use Rattle.planner.specs.Plan.{plan_of}
use Rattle.planner.specs.OneFrame.{Alike, Planning, asked, expected, examples}
use Rattle.std.specs.Prelude.{Ok}

-- an accepted ticket, with room in the buffer
planned :
    (t : List ℕ) (h : Header) (cards : List ℕ) → parse t ≡ accepted h cards → (places : ℕ) → length cards ≤ places
    → plan_of (parse t) places ≡ Ok (record { 0 = (plan_for h.mode h.pool cards).T })
unfolding plan_of
planned t h cards e places room = rw (e, le-ltb places (length cards) room)

-- what holds of the plans of two lists in both modes
module _ (Apart : ℕ → ℕ → Type 0) (m : ℕ) (cards cards' : List ℕ) where
  of_mode :
      (mode : ℕ) → ReadOrSave mode
      → Apart (lazy_prefetching m cards).T (lazy_prefetching m cards').T → Apart (greedy_writing m cards).T (greedy_writing m cards').T
      → Apart (plan_for mode m cards).T (plan_for mode m cards').T
  of_mode mode which read save =
      elim which [
        | inl e ↦ rw (plan_read mode m cards e, plan_read mode m cards' e) read
        | inr e ↦ rw (plan_save mode m cards e, plan_save mode m cards' e) save
      ]

-- holds of what `plan` answers for two tickets with these lists
module _
    (Apart : ℕ → ℕ → Type 0) (t u : List ℕ) (h g : Header) (cards cards' : List ℕ)
    (e : parse t ≡ accepted h cards) (f : parse u ≡ accepted g cards') (alike : Alike h g)
    (p q : ℕ) (room : length cards ≤ p) (room' : length cards' ≤ q) where
  pub two_calls :
      Apart (lazy_prefetching h.pool cards).T (lazy_prefetching h.pool cards').T
      → Apart (greedy_writing h.pool cards).T (greedy_writing h.pool cards').T → Planning t u p q Apart
  two_calls read save =
      let one-mode : h.mode ≡ g.mode = alike.mode in
      let one-pool : h.pool ≡ g.pool = alike.pool in
      record {
        T = (plan_for h.mode h.pool cards).T;
        U = (plan_for h.mode h.pool cards').T;
        first = planned t h cards e p room;
        second = rw (one-mode, one-pool) (planned u g cards' f q room');
        apart = of_mode Apart h.pool cards cards' h.mode alike.read_or_save read save;
      }

pub examples_hold : map asked examples ≡ map expected examples
unfolding save_and_keep greedy_writing lazy_prefetching digit digits number is_line digit_of hex known second_digits header_of within_limits
    header_answer heading card_at second_at second_before line_fault lines_fault part_fault parse line_texts ticket_text plan_of
examples_hold = refl
