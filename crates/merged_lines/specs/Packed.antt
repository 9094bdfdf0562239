-- Bytes packed into a number, eight of which fill 64 bits: one comparison then compares eight digits of a text, and one store writes them.
-- Assumes nothing.
use Rattle.std.specs.Prelude.{ℕ, zero, suc, ◌+◌, ◌*◌, ◌/◌, ◌%◌, List, [], ◌∷◌, ◌++◌, get_or, bit_and}

-- the n bytes from place `at` on, as a number in base 256, the first one the highest
unfoldable pub packed : List ℕ → ℕ → ℕ → ℕ
packed s at zero = 0
packed s at (suc n) = packed s at n * 256 + get_or s (at + n) 0

-- the n bytes of such a number
unfoldable pub bytes : ℕ → ℕ → List ℕ
bytes zero v = []
bytes (suc n) v = bytes n (v / 256) ++ ((v % 256) ∷ [])

-- In each byte 128 where that byte reaches 128 when 31 is added to it, as a to f do and no other digit does.
abbrev pub small_letters : ℕ → ℕ
small_letters x = bit_and (x + 0x1f1f1f1f1f1f1f1f) 0x8080808080808080
