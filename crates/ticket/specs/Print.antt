-- A ticket written from its values (document 01, "The ticket, edition 1", and request 2026-02).
-- Assumes nothing.
use Rattle.std.specs.Prelude.{ℕ, zero, suc, List, [], ◌++◌, length}
use Rattle.counting.specs.Frames.{card_of}
use Rattle.header.specs.Editions.{edition1, card_digits, second_digits}
use Rattle.header.specs.Limits.{max_cards}
use Rattle.header.specs.declared.Header.{Header}
use Rattle.text.specs.Hex.{hex, end_of_line}
use Rattle.ticket.specs.Seconds.{second_of}

abbrev pub header_text : Header → List ℕ
header_text h = hex 2 h.edition ++ (hex 2 h.mode ++ (hex 2 h.cards ++ (hex 4 h.pool ++ (hex 4 h.frames ++ end_of_line))))

-- "the card (2) and the capture second (8)": a line without its end byte; in edition 01 the card alone
abbrev pub line_text : ℕ → ℕ → ℕ → List ℕ
line_text edition card second = hex card_digits card ++ hex (second_digits edition) second

-- the lines of the first n frames
unfoldable pub line_texts : ℕ → List ℕ → List ℕ → ℕ → List ℕ
line_texts edition cards seconds zero = []
line_texts edition cards seconds (suc n) =
    line_texts edition cards seconds n ++ (line_text edition (card_of cards n) (second_of seconds n) ++ end_of_line)

-- the ticket of these values
unfoldable pub ticket_text : Header → List ℕ → List ℕ → List ℕ
ticket_text h cards seconds = header_text h ++ line_texts h.edition cards seconds (length cards)

-- the same header in edition 01, and the edition 01 ticket of its mode, cards, pool and list
abbrev pub as_edition1 : Header → Header
as_edition1 h = record { edition = edition1; mode = h.mode; cards = h.cards; pool = h.pool; frames = h.frames }

abbrev pub without_seconds : Header → List ℕ → List ℕ
without_seconds h cards = ticket_text (as_edition1 h) cards []

-- an edition 01 ticket that asks for a mode, with 32 cards and a pool of m
abbrev pub ticket_for : ℕ → ℕ → List ℕ → List ℕ
ticket_for mode m cards =
    ticket_text (record { edition = edition1; mode = mode; cards = max_cards; pool = m; frames = length cards }) cards []
