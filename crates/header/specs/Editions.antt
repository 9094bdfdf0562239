-- The editions of a ticket (document 01, "The ticket, edition 1", and request 2026-02): which ones are read, and how wide a frame line of each
-- is. Every other place goes through these definitions; the code's own place is src/editions.rt.
-- Assumes nothing.
use Rattle.std.specs.Prelude.{ℕ, ◌+◌, ◌≡◌, Bool, ◌||◌, cond, ◌⊎◌, eqb}

abbrev pub edition1 : ℕ
edition1 = 1

abbrev pub edition2 : ℕ
edition2 = 2

-- "Refusal 2 now means neither 01 nor 02": the editions that are read, in words and as a test
abbrev pub Known : ℕ → Type 0
Known e = (e ≡ edition1) ⊎ (e ≡ edition2)

unfoldable pub known : ℕ → Bool
known e = eqb e edition1 || eqb e edition2

-- Every line begins with its frame's card, in 2 digits.
abbrev pub card_digits : ℕ
card_digits = 2

-- The digits that follow the card: none in edition 01; "the capture second (8)" in edition 02.
unfoldable pub second_digits : ℕ → ℕ
second_digits e = cond (eqb e edition2) 8 0

-- the digits of a line
abbrev pub line_digits : ℕ → ℕ
line_digits e = card_digits + second_digits e

-- the bytes of a line, with its end byte
abbrev pub line_bytes : ℕ → ℕ
line_bytes e = line_digits e + 1
