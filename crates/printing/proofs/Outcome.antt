-- The whole contract of `print`, from what the function that prints leaves.
-- Assumes nothing.
use Prim.Native.Nat.{ℕ, ◌≤◌}
use mathlib.Core.Path.{◌≡◌, sym}
use mathlib.Core.List.{List}
use lib.Dec.{leb}
use lib.ListN.{length, drop, length-append}
use lib.Seq.{length-take-le}
use native.Mathlib.Omega.{arith}
use Rattle.counting.proofs.Bits.{by_cases}
use Rattle.print_lines.specs.Put.{bytes_in, buffer_after, Put}
use Rattle.printing.specs.Printed.{Front}

pub contract :
    (text before after : List ℕ) (r : ℕ) → Put text before after r
    → (r ≡ bytes_in text (length before)) × ((after ≡ buffer_after text before) × Front r after)
unfolding bytes_in buffer_after
contract text before after r p =
    let within : r ≤ length after =
    rw (p.answer, p.buffer)
    (by_cases (leb (length text) (length before))
    (λ q. rw q (omega (arith, length-append text (drop (length text) before))))
    (λ q. rw q (omega arith))) in
    (p.answer, (p.buffer, (within, sym (length-take-le r after within))))
