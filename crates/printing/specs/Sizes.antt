-- How many bytes the program looks at, and how many it prints at most (document 01, the last paragraph of "Cases"). The code's constants are
-- INPUT and LONGEST (src/lib.rt); the contracts of `input_buffer` and `text_buffer` hold them to these numbers.
-- Assumes nothing.
use Rattle.std.specs.Prelude.{ℕ, ◌+◌, ◌*◌}
use Rattle.header.specs.Limits.{max_frames}

-- "looks at its first 65,536 bytes, which settle every ticket"
abbrev pub input_bytes : ℕ
input_bytes = 65536

-- "T in 4 digits", and the end byte
abbrev pub head_bytes : ℕ
head_bytes = 4 + 1

-- "for each frame position (4), card (2), cycle (4)", and the end byte
abbrev pub frame_bytes : ℕ
frame_bytes = 4 + 2 + 4 + 1

-- the longest text: the line of T, and a line for each of the most frames that a ticket can have
abbrev pub longest_text : ℕ
longest_text = head_bytes + frame_bytes * max_frames
