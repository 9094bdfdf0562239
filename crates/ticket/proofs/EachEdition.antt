-- The lines of each edition, with its widths written out.
-- Assumes nothing.
use Prim.Native.Nat.{ℕ, ◌+◌, ◌*◌, ◌≤◌}
use mathlib.Core.Path.{◌≡◌, refl}
use mathlib.Core.Bool.{cond}
use mathlib.Core.List.{List}
use lib.Dec.{ltb}
use borrow.Author.Tests.{le-ltb}
use Rattle.text.specs.Text.{number, is_line}
use Rattle.header.specs.Editions.{edition1, edition2, second_digits}
use Rattle.frame_lines.specs.Lines.{card_at, second_at, second_before, line_fault}
use Rattle.frame_lines.proofs.OneLine.{nothing_asked}

-- edition 01 has no second, so none falls
in_order : (s : List ℕ) (i : ℕ) → second_before edition1 s i ≤ second_at edition1 s i
unfolding second_digits
in_order s i = (nothing_asked edition1 s refl 0 i).1

pub first :
    (s : List ℕ) (cards i : ℕ)
    → line_fault edition1 s cards i ≡ cond (is_line s (3 * i) 2) (cond (ltb (number s (3 * i) 2) cards) 0 8) 7
unfolding second_digits card_at line_fault
first s cards i = rw (le-ltb (second_at edition1 s i) (second_before edition1 s i) (in_order s i))

pub second :
    (s : List ℕ) (i : ℕ) → (card_at edition2 s i ≡ number s (11 * i) 2) × (second_at edition2 s i ≡ number s (11 * i + 2) 8)
unfolding second_digits card_at second_at
second s i = (refl, refl)
