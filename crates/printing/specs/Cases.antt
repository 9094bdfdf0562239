-- Texts printed, byte by byte (48 to 57 are the digits 0-9, 65 to 70 A-F, 97 to 102 a-f, 10 ends a line).
-- Assumes nothing.
use Rattle.std.specs.Prelude.{ℕ, List, [], ◌∷◌}
use Rattle.print_lines.specs.Lines.{refusal_text}
use Rattle.printing.specs.Printed.{printed}

-- a text printed, and the text that it should be
pub record Case : Type 0 where
  pub text : List ℕ
  pub expected : List ℕ

-- "Ticket lines `01000200020003`, `00`, `00`, `01` ..
abbrev first_ticket : List ℕ
first_ticket =
    48 ∷ 49 ∷ 48 ∷ 48 ∷ 48 ∷ 50 ∷ 48 ∷ 48 ∷ 48 ∷ 50 ∷ 48 ∷ 48 ∷ 48 ∷ 51 ∷ 10 ∷
    48 ∷ 48 ∷ 10 ∷
    48 ∷ 48 ∷ 10 ∷
    48 ∷ 49 ∷ 10 ∷
    []

-- .. print exactly `0002`, `0000000001`, `0001000002`, `0002010002`"
abbrev first_text : List ℕ
first_text =
    48 ∷ 48 ∷ 48 ∷ 50 ∷ 10 ∷
    48 ∷ 48 ∷ 48 ∷ 48 ∷ 48 ∷ 48 ∷ 48 ∷ 48 ∷ 48 ∷ 49 ∷ 10 ∷
    48 ∷ 48 ∷ 48 ∷ 49 ∷ 48 ∷ 48 ∷ 48 ∷ 48 ∷ 48 ∷ 50 ∷ 10 ∷
    48 ∷ 48 ∷ 48 ∷ 50 ∷ 48 ∷ 49 ∷ 48 ∷ 48 ∷ 48 ∷ 50 ∷ 10 ∷
    []

-- The same list on cards 11 and 10, typed in either case: `01000c00020003`, `0b`, `0B`, `0a` ..
abbrev mixed_ticket : List ℕ
mixed_ticket =
    48 ∷ 49 ∷ 48 ∷ 48 ∷ 48 ∷ 99 ∷ 48 ∷ 48 ∷ 48 ∷ 50 ∷ 48 ∷ 48 ∷ 48 ∷ 51 ∷ 10 ∷
    48 ∷ 98 ∷ 10 ∷
    48 ∷ 66 ∷ 10 ∷
    48 ∷ 97 ∷ 10 ∷
    []

-- .. "Printed lines remain upper case": `0002`, `00000B0001`, `00010B0002`, `00020A0002`.
abbrev mixed_text : List ℕ
mixed_text =
    48 ∷ 48 ∷ 48 ∷ 50 ∷ 10 ∷
    48 ∷ 48 ∷ 48 ∷ 48 ∷ 48 ∷ 66 ∷ 48 ∷ 48 ∷ 48 ∷ 49 ∷ 10 ∷
    48 ∷ 48 ∷ 48 ∷ 49 ∷ 48 ∷ 66 ∷ 48 ∷ 48 ∷ 48 ∷ 50 ∷ 10 ∷
    48 ∷ 48 ∷ 48 ∷ 50 ∷ 48 ∷ 65 ∷ 48 ∷ 48 ∷ 48 ∷ 50 ∷ 10 ∷
    []

-- The first list in edition 02, captured in seconds 3600, 3600 and 3601: `02000200020003`, `0000000E10`, `0000000E10`, `0100000E11`. It prints
-- what the first ticket does.
abbrev timed_ticket : List ℕ
timed_ticket =
    48 ∷ 50 ∷ 48 ∷ 48 ∷ 48 ∷ 50 ∷ 48 ∷ 48 ∷ 48 ∷ 50 ∷ 48 ∷ 48 ∷ 48 ∷ 51 ∷ 10 ∷
    48 ∷ 48 ∷ 48 ∷ 48 ∷ 48 ∷ 48 ∷ 48 ∷ 69 ∷ 49 ∷ 48 ∷ 10 ∷
    48 ∷ 48 ∷ 48 ∷ 48 ∷ 48 ∷ 48 ∷ 48 ∷ 69 ∷ 49 ∷ 48 ∷ 10 ∷
    48 ∷ 49 ∷ 48 ∷ 48 ∷ 48 ∷ 48 ∷ 48 ∷ 69 ∷ 49 ∷ 49 ∷ 10 ∷
    []

-- and two frames of which the second was captured earlier: `02000200020002`, `0000000001`, `0100000000`
abbrev falling_ticket : List ℕ
falling_ticket =
    48 ∷ 50 ∷ 48 ∷ 48 ∷ 48 ∷ 50 ∷ 48 ∷ 48 ∷ 48 ∷ 50 ∷ 48 ∷ 48 ∷ 48 ∷ 50 ∷ 10 ∷
    48 ∷ 48 ∷ 48 ∷ 48 ∷ 48 ∷ 48 ∷ 48 ∷ 48 ∷ 48 ∷ 49 ∷ 10 ∷
    48 ∷ 49 ∷ 48 ∷ 48 ∷ 48 ∷ 48 ∷ 48 ∷ 48 ∷ 48 ∷ 48 ∷ 10 ∷
    []

-- FF01, FF11 and FF10: an empty ticket, a second that falls, and how refusal 16 would be printed
unfoldable pub cases : List Case
cases =
    record { text = printed first_ticket; expected = first_text } ∷
    record { text = printed mixed_ticket; expected = mixed_text } ∷
    record { text = printed timed_ticket; expected = first_text } ∷
    record { text = printed []; expected = 70 ∷ 70 ∷ 48 ∷ 49 ∷ 10 ∷ [] } ∷
    record { text = printed falling_ticket; expected = 70 ∷ 70 ∷ 49 ∷ 49 ∷ 10 ∷ [] } ∷
    record { text = refusal_text 16; expected = 70 ∷ 70 ∷ 49 ∷ 48 ∷ 10 ∷ [] } ∷
    []
