-- Printed numbers: upper-case hexadecimal digits (document 01).
-- Assumes nothing.
use Rattle.std.specs.Prelude.{ℕ, zero, suc, ◌+◌, ◌/◌, ◌%◌, cond, List, [], ◌∷◌, ◌++◌, ltb}
use Rattle.counting.specs.Count.{tabulate}
use Rattle.text.specs.Text.{end_byte}

-- the digit of a value below 16: 0-9, A-F
unfoldable pub digit_of : ℕ → ℕ
digit_of v = cond (ltb v 10) (48 + v) (55 + v)

-- the digits of all values below 16
unfoldable pub digit_texts : List ℕ
digit_texts = tabulate 16 digit_of

-- a number in n digits
unfoldable pub hex : ℕ → ℕ → List ℕ
hex zero x = []
hex (suc n) x = hex n (x / 16) ++ (digit_of (x % 16) ∷ [])

abbrev pub end_of_line : List ℕ
end_of_line = end_byte ∷ []
