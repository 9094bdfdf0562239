-- Every printed text has room in a buffer of `longest_text` bytes.
-- Assumes nothing.
use Prim.Native.Nat.{ℕ, ◌≤◌}
use mathlib.Core.Path.{◌≡◌, refl}
use mathlib.Core.List.{List}
use native.Mathlib.Omega.{arith}
use lib.ListN.{length}
use borrow.Author.Tests.{le-leb}
use Rattle.counting.specs.Count.{written}
use Rattle.ticket.specs.Ticket.{Parsed, accepted, refused, parse}
use Rattle.ticket.proofs.Main as ticket
use Rattle.mode_plans.specs.Plans.{plan_for}
use Rattle.printing.specs.Printed.{text_of, printed}
use Rattle.print_lines.specs.Put.{bytes_in, buffer_after}
use Rattle.print_lines.proofs.Outcome.{refusal_length}
use Rattle.printing.specs.Sizes.{longest_text}
use Rattle.printing.proofs.Listed.{plan_long}

text_short : (t : List ℕ) (p : Parsed) → parse t ≡ p → length (text_of p) ≤ longest_text
unfolding text_of
text_short t (accepted h cards) e =
    omega (arith, plan_long cards (plan_for h.mode h.pool cards), ticket.accepted_few t h cards e)
text_short t (refused k) e = omega (arith, refusal_length k)

pub room_for_every_text : (t : List ℕ) → length (printed t) ≤ longest_text
room_for_every_text t = text_short t (parse t) refl

pub whole_text :
    (t before : List ℕ) → longest_text ≤ length before
    → (bytes_in (printed t) (length before) ≡ length (printed t)) × (buffer_after (printed t) before ≡ written (printed t) before)
unfolding bytes_in buffer_after
whole_text t before h = rw (le-leb (length (printed t)) (length before) (omega (arith, h, room_for_every_text t))) (refl, refl)
