-- The table of specs/Cases.antt, proved by computing.
-- Assumes nothing.
use mathlib.Core.Path.{◌≡◌, refl}
use mathlib.Core.List.{map}
use Rattle.text.specs.Hex.{digit_of, hex}
use Rattle.header.specs.Editions.{second_digits}
use Rattle.ticket.specs.Print.{line_texts, ticket_text}
use Rattle.merged_lines.specs.Merge.{merge}
use Rattle.join.specs.Join.{joinable, join_read, answer_of}
use Rattle.join.specs.Cases.{answered, expected, cases}

pub cases_hold : map answered cases ≡ map expected cases
unfolding digit_of hex second_digits line_texts ticket_text merge joinable join_read answer_of
cases_hold = refl
