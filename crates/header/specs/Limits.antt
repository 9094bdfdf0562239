-- The limits of a ticket (document 01, "The ticket, edition 1"), each in this one place. The code's constants are in src/limits.rt.
-- Assumes nothing.
use Rattle.std.specs.Prelude.{ℕ, ◌≤◌, ◌<◌, ◌≡◌, ◌⊎◌}

-- "Modes: 00 read; 01 save; 02 save and keep."
abbrev pub mode_read : ℕ
mode_read = 0

abbrev pub mode_save : ℕ
mode_save = 1

abbrev pub mode_save_and_keep : ℕ
mode_save_and_keep = 2

-- "both read and full save" (request 2026-06), "For read and full save" (request 2026-08)
abbrev pub ReadOrSave : ℕ → Type 0
ReadOrSave mode = (mode ≡ mode_read) ⊎ (mode ≡ mode_save)

-- "Cards 1 to 32". Answers that have an entry for each card have 32 entries.
abbrev pub max_cards : ℕ
max_cards = 32

-- Request 2026-07: "The largest dock in use has 192 buffers. That becomes the limit in tickets and in the saver". So many frames can wait at once,
-- which decides the size of a saver's record.
abbrev pub max_pool : ℕ
max_pool = 192

-- "frames L 0 to 4,096". A plan never has more cycles than frames, so cycles and positions fit in 16 bits.
abbrev pub max_frames : ℕ
max_frames = 4096

-- "1 to n", and "not 1 to n"
abbrev pub Within : ℕ → ℕ → Type 0
Within n x = (1 ≤ x) × (x ≤ n)

abbrev pub Outside : ℕ → ℕ → Type 0
Outside n x = (x < 1) ⊎ (n < x)
