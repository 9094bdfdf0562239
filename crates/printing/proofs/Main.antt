-- The public theorems about the printed plan. The contract of `print` (src/lib.rt) says of every ticket and every buffer what a call leaves.
-- Assumes nothing.
use Prim.Native.Nat.{ℕ, ◌≤◌}
use mathlib.Core.Path.{◌≡◌, refl, ap}
use mathlib.Core.List.{List, map}
use native.Mathlib.Omega.{arith}
use lib.ListN.{length, take}
use Rattle.counting.specs.Count.{written}
use Rattle.frame_lines.proofs.OneLine.{eight_of}
use Rattle.ticket.proofs.Main as ticket
use Rattle.printing.specs.Printed.{text_of, printed}
use Rattle.print_lines.specs.Put.{bytes_in, buffer_after}
use Rattle.printing.specs.Sizes.{input_bytes, longest_text}
use Rattle.printing.specs.Cases.{Case, cases}
use Rattle.printing.proofs.Cases as table
use Rattle.printing.proofs.Short as short

-- "looks at its first 65,536 bytes, which settle every ticket"
pub front_settles : (t : List ℕ) → printed (take input_bytes t) ≡ printed t
front_settles t = ap text_of (ticket.front_settles input_bytes t (omega (arith, eight_of refl))).0

-- No text is longer than the buffer that the program lends.
pub room_for_every_text : (t : List ℕ) → length (printed t) ≤ longest_text
room_for_every_text = short.room_for_every_text

-- With that room the whole text is printed (`print_whole` says so of each call).
pub whole_text :
    (t before : List ℕ) → longest_text ≤ length before
    → (bytes_in (printed t) (length before) ≡ length (printed t)) × (buffer_after (printed t) before ≡ written (printed t) before)
whole_text = short.whole_text

-- The example of document 01, a ticket typed in either case, and two refusals, byte by byte.
pub texts_hold : map (λ (c : Case). c.text) cases ≡ map (λ (c : Case). c.expected) cases
texts_hold = table.texts_hold
