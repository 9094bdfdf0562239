-- The frame lines of two edition 02 tickets, merged and written again in upper case.
-- Assumes nothing.
use Rattle.std.specs.Prelude.{ℕ, ◌+◌, ◌*◌, ◌≤◌, ◌<◌, ◌≡◌, cond, List, map, ltb, length}
use Rattle.counting.specs.Count.{tabulate}
use Rattle.text.specs.Text.{Line}
use Rattle.text.specs.UpperCase.{upper_case}
use Rattle.header.specs.Editions.{edition2, card_digits, line_digits, line_bytes}
use Rattle.header.specs.Limits.{max_frames}
use Rattle.frame_lines.specs.Lines.{card_at, second_at}
use Rattle.ticket.specs.Print.{line_texts}
use Rattle.merged_lines.specs.Merge.{Frame, frames, merge}
use Rattle.merged_lines.specs.Packed.{packed}

-- the first n lines of a part are lines of edition 02
abbrev pub HasLines : List ℕ → ℕ → Type 0
HasLines s n = (i : ℕ) → i < n → Line s (line_bytes edition2 * i) (line_digits edition2)

-- the frames of these lines
abbrev pub frames_in : List ℕ → ℕ → List Frame
frames_in s n = frames (tabulate n (card_at edition2 s)) (tabulate n (second_at edition2 s))

-- larger than every eight digits
abbrev pub no_key : ℕ
no_key = 18446744073709551615

-- What the line at an offset is sorted by, where the lines end at `end`: the digits of its second, in upper case; at the end a number that is larger
-- than all of them. Digits in upper case have the order of their values.
unfoldable pub key_at : List ℕ → ℕ → ℕ → ℕ
key_at s end from = cond (ltb from end) (packed (upper_case s) (from + card_digits) 8) no_key

-- A line stands at an offset, `key` has the digits of its second, and what follows up to `end` is lines.
pub record Next (s : List ℕ) (end from key : ℕ) : Type 0 where
  pub line : Line s from 10
  pub its_key : key ≡ packed (upper_case s) (from + card_digits) 8
  pub inside : from + 11 ≤ end
  pub few : end ≤ 11 * max_frames
  pub next : from + 11 < end → Line s (from + 11) 10

-- the lines of a list of frames
abbrev pub lines_text : List Frame → List ℕ
lines_text all = line_texts edition2 (map (λ f. f.card) all) (map (λ f. f.second) all) (length all)

-- the lines of two parts, merged
abbrev pub merged_text : List ℕ → ℕ → List ℕ → ℕ → List ℕ
merged_text a n b m = lines_text (merge (frames_in a n) (frames_in b m))
