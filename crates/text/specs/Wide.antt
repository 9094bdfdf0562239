-- Numbers of bytes that may be no digits: one such byte makes a number larger than any of 8 digits, so that one test tells both.
-- Assumes nothing.
use Rattle.std.specs.Prelude.{ℕ, zero, suc, ◌+◌, ◌*◌, cond, List, ltb, get_or}
use Rattle.counting.specs.Count.{tabulate}
use Rattle.text.specs.Text.{digit}

-- 16 to the 8: the numbers of 8 digits are below it
abbrev pub no_number : ℕ
no_number = 4294967296

-- a digit's value, and `no_number` in place of what is none
unfoldable pub wide : ℕ → ℕ
wide v = cond (ltb v 16) v no_number

-- the values of all bytes
unfoldable pub wide_values : List ℕ
wide_values = tabulate 256 (λ b. wide (digit b))

-- the number of the n bytes from place `at` on, the first one the highest
unfoldable pub wide_number : List ℕ → ℕ → ℕ → ℕ
wide_number s at zero = 0
wide_number s at (suc n) = wide_number s at n * 16 + wide (digit (get_or s (at + n) 0))
