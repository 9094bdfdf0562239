-- What the check leaves to say of `read_heading`.
use Prim.Native.Nat.{ℕ, ◌+◌, ◌≤◌}
use mathlib.Core.Path.{◌≡◌, sym, ◌∙◌}
use mathlib.Core.Bool.{true}
use mathlib.Core.List.{List}
use native.Mathlib.Omega.{arith}
use lib.ListN.{length}
use Rattle.text.specs.Text.{digits, is_line}
use Rattle.text.proofs.Digits.{line_long, field_digits}
use Rattle.header.proofs.Judged.{heading_1, heading_read}
use Rattle.header.proofs.read_heading.Goals as goal

-- what reading a field of the header asks
asks :
    (t : List ℕ) → is_line t 0 14 ≡ true → (at n : ℕ) → n ≤ 8 → at + n ≤ 14 → (n ≤ 8) × (at + n ≤ length t) × (digits t at n ≡ true)
asks t l at n h k = (h, omega (arith, line_long t 0 14 l), field_digits t 14 at n l k)

pub number-requires : goal.number-requires
number-requires c = asks _ (sym c.is_line.ensures ∙ c.if-is_line.true) 0 2 (omega arith) (omega arith)

pub number-requires-then-is_line : goal.number-requires-then-is_line
number-requires-then-is_line c = asks _ (sym c.is_line.ensures ∙ c.if-is_line.true) 2 2 (omega arith) (omega arith)

pub number-requires-then-is_line-2 : goal.number-requires-then-is_line-2
number-requires-then-is_line-2 c = asks _ (sym c.is_line.ensures ∙ c.if-is_line.true) 4 2 (omega arith) (omega arith)

pub number-requires-then-is_line-3 : goal.number-requires-then-is_line-3
number-requires-then-is_line-3 c = asks _ (sym c.is_line.ensures ∙ c.if-is_line.true) 6 4 (omega arith) (omega arith)

pub number-requires-then-is_line-4 : goal.number-requires-then-is_line-4
number-requires-then-is_line-4 c =
    asks _ (sym c.is_line.ensures ∙ c.if-is_line.true) 10 4 (omega arith) (omega arith)

pub returns-then-is_line : goal.returns-then-is_line
returns-then-is_line c =
    heading_read _ (sym c.is_line.ensures ∙ c.if-is_line.true)
    c.number.ensures.0
    c.number-then-is_line.ensures.0
    c.number-then-is_line-2.ensures.0
    c.number-then-is_line-3.ensures.0
    c.number-then-is_line-4.ensures.0
    c.header_answer.ensures

pub returns-else-is_line : goal.returns-else-is_line
returns-else-is_line c = sym (heading_1 _ (sym c.is_line.ensures ∙ c.if-is_line.false))
