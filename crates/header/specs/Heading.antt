-- The header of a ticket (document 01, "The ticket, edition 1", and request 2026-02): what stands in it, and refusals 1 to 6.
-- Assumes nothing.
use Rattle.std.specs.Prelude.{ℕ, ◌+◌, ◌&&◌, cond, List, ltb, leb}
use Rattle.text.specs.Text.{number, is_line}
use Rattle.header.specs.Editions.{known}
use Rattle.header.specs.Limits.{mode_save_and_keep, max_cards, max_pool, max_frames}
use Rattle.header.specs.declared.Header.{Header}
use Rattle.std.specs.Prelude.{Result, Ok, Err}

-- "The header has 14 digits", and an end byte.
abbrev pub header_digits : ℕ
header_digits = 14

abbrev pub header_bytes : ℕ
header_bytes = header_digits + 1

-- "edition (2 digits ..), mode (2), cards (2), pool (4), frames (4)"
unfoldable pub header_of : List ℕ → Header
header_of t = record { edition = number t 0 2; mode = number t 2 2; cards = number t 4 2; pool = number t 6 4; frames = number t 10 4 }

-- The edition, which stands first. It decides how wide the frame lines are.
abbrev pub edition_of : List ℕ → ℕ
edition_of t = (header_of t).edition

-- the same where it is below 10, as the editions that are read are; 0 for any other text
unfoldable pub low_edition : List ℕ → ℕ
low_edition t = cond (ltb (edition_of t) 10) (edition_of t) 0

-- Refusals 3 to 6.
unfoldable pub within_limits : Header → Result Header ℕ
within_limits h =
    cond (leb h.mode mode_save_and_keep)
    (cond (leb 1 h.cards && leb h.cards max_cards)
    (cond (leb 1 h.pool && leb h.pool max_pool)
    (cond (leb h.frames max_frames) (Ok h) (Err 6))
    (Err 5))
    (Err 4))
    (Err 3)

-- Refusals 2 to 6.
unfoldable pub header_answer : Header → Result Header ℕ
header_answer h = cond (known h.edition) (within_limits h) (Err 2)

-- Refusals 1 to 6.
unfoldable pub heading : List ℕ → Result Header ℕ
heading t = cond (is_line t 0 header_digits) (header_answer (header_of t)) (Err 1)
