-- The lines of a printed text (document 01, the last paragraph of "Cases"): that of a frame, and that of a refusal. Their digits are those of
-- `hex`, upper case.
-- Assumes nothing.
use Rattle.std.specs.Prelude.{ℕ, List, ◌++◌}
use Rattle.text.specs.Hex.{hex, end_of_line}

-- "for each frame position (4), card (2), cycle (4)"
abbrev pub frame_line : ℕ → ℕ → ℕ → List ℕ
frame_line position card cycle = hex 4 position ++ (hex 2 card ++ (hex 4 cycle ++ end_of_line))

-- "A refusal prints one line, FF and its number in 2 digits."
unfoldable pub refusal_text : ℕ → List ℕ
refusal_text number = hex 2 255 ++ (hex 2 number ++ end_of_line)
