-- Text: what a digit, a number and a line are (document 01, "The ticket, edition 1", and requests 2026-01 and 2026-02).
-- Text is a list of bytes. A place past its end reads as byte 0, which is neither a digit nor the end byte.
-- Assumes nothing.
use Rattle.std.specs.Prelude.{ℕ, zero, suc, ◌+◌, ◌-◌, ◌*◌, ◌<◌, ◌≡◌, Bool, true, ◌&&◌, cond, List, eqb, leb, ltb, length, get_or}
use Rattle.counting.specs.Count.{tabulate}

-- "ends in byte 0A hex"
abbrev pub end_byte : ℕ
end_byte = 10

-- "A digit now has its value in either case": that of 0-9, of A-F and of a-f, and 255 for a byte that is no digit. A number of 2 digits is
-- 255 or more where one of them is none.
unfoldable pub digit : ℕ → ℕ
digit b =
    cond (leb 48 b && leb b 57) (b - 48)
    (cond (leb 65 b && leb b 70) (b - 55)
    (cond (leb 97 b && leb b 102) (b - 87)
    255))

abbrev pub is_digit : ℕ → Bool
is_digit b = ltb (digit b) 16

-- the values of all bytes
unfoldable pub digit_values : List ℕ
digit_values = tabulate 256 digit

module _ (s : List ℕ) (at : ℕ) where
  -- whether the n bytes from place `at` on are digits
  unfoldable pub digits : ℕ → Bool
  digits zero = true
  digits (suc n) = digits n && is_digit (get_or s (at + n) 0)

  -- the value of the n digits from place `at` on, the first one the highest
  unfoldable pub number : ℕ → ℕ
  number zero = 0
  number (suc n) = number n * 16 + digit (get_or s (at + n) 0)

  -- whether a line of n digits stands at place `at`: n digits and an end byte
  unfoldable pub is_line : ℕ → Bool
  is_line n = ltb (at + n) (length s) && (digits n && eqb (get_or s (at + n) 0) end_byte)

-- the same in plain words: n digits and an end byte stand at place `at` of s
pub record Line (s : List ℕ) (at n : ℕ) : Type 0 where
  pub inside : at + n < length s
  pub each_digit : (i : ℕ) → i < n → digit (get_or s (at + i) 0) < 16
  pub ends : get_or s (at + n) 0 ≡ end_byte
