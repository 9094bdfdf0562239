-- A frame's byte: its card, below 32, and 128 more while the frame is held.
-- Assumes nothing.
use Prim.Native.Nat.{ℕ, ◌+◌, ◌*◌, ◌%◌, ◌<◌}
use mathlib.Core.Path.{◌≡◌}
use mathlib.Core.Bool.{Bool, true, false, cond}
use native.Mathlib.Omega.{arith}
use native.Mathlib.Nat.{mod-eq_of_lt}
use lib.Dec.{leb}
use lib.Arith.{digits_mod}
use borrow.Author.Tests.{le-leb, lt-leb}

pub mark_card : (x : ℕ) (b : Bool) → x < 32 → (x + cond b 128 0) % 32 ≡ x
mark_card x true l = let e : x + 128 ≡ 4 * 32 + x = omega arith in rw e (digits_mod 4 l)
mark_card x false l = let e : x + 0 ≡ x = omega arith in rw e (mod-eq_of_lt l)

pub mark_held : (x : ℕ) (b : Bool) → x < 32 → leb 128 (x + cond b 128 0) ≡ b
mark_held x true l = le-leb 128 (x + 128) (omega arith)
mark_held x false l = lt-leb 128 (x + 0) (omega arith)
