-- A text is read as its upper-case text is, with the same values or the same refusal, and the same seconds.
-- Assumes nothing.
use Prim.Native.Nat.{ℕ, zero, suc, ◌+◌, ◌*◌}
use mathlib.Core.Path.{◌≡◌, refl, sym, ap, ◌∙◌}
use mathlib.Core.List.{List}
use lib.ListN.{length, drop}
use Rattle.counting.proofs.Lists.{tabulate_cong}
use Rattle.counting.proofs.Parts.{map_drop}
use Rattle.text.specs.UpperCase.{upper, upper_case}
use Rattle.text.proofs.UpperCase.{length_upper, number_upper, line_upper}
use Rattle.header.specs.Editions.{card_digits, second_digits, line_digits, line_bytes}
use Rattle.header.specs.Heading.{header_digits, header_bytes, header_of, heading}
use Rattle.std.specs.Prelude.{Result, Ok, Err}
use Rattle.header.specs.declared.Header.{Header}
use Rattle.frame_lines.specs.Lines.{card_at, second_at, second_before, line_fault, lines_fault, part_fault}
use Rattle.ticket.specs.Ticket.{Parsed, accepted, refused, parse_part, parse}
use Rattle.ticket.specs.Seconds.{how_many_seconds, seconds_in, seconds_of}

-- the frame lines
module _ (edition : ℕ) (s : List ℕ) where
  card_upper : (i : ℕ) → card_at edition (upper_case s) i ≡ card_at edition s i
  unfolding card_at
  card_upper i = number_upper s (line_bytes edition * i) card_digits

  second_upper : (i : ℕ) → second_at edition (upper_case s) i ≡ second_at edition s i
  unfolding second_at
  second_upper i = number_upper s (line_bytes edition * i + card_digits) (second_digits edition)

  before_upper : (i : ℕ) → second_before edition (upper_case s) i ≡ second_before edition s i
  unfolding second_before
  before_upper zero = refl
  before_upper (suc i) = second_upper i

  fault_upper : (cards i : ℕ) → line_fault edition (upper_case s) cards i ≡ line_fault edition s cards i
  unfolding line_fault
  fault_upper cards i = rw (line_upper s (line_bytes edition * i) (line_digits edition), card_upper i, second_upper i, before_upper i)

  lines_upper : (cards n : ℕ) → lines_fault edition (upper_case s) cards n ≡ lines_fault edition s cards n
  unfolding lines_fault
  lines_upper cards zero = refl
  lines_upper cards (suc n) = rw (lines_upper cards n, fault_upper cards n)

  part_upper : (cards n : ℕ) → part_fault edition (upper_case s) cards n ≡ part_fault edition s cards n
  unfolding part_fault
  part_upper cards n = rw (lines_upper cards n, length_upper s)

module _ (s : List ℕ) where
  parse_part_upper : (a : Result Header ℕ) → parse_part a (upper_case s) ≡ parse_part a s
  parse_part_upper (Err k) = refl
  parse_part_upper (Ok h) =
      rw (
        part_upper h.edition s h.cards h.frames,
        tabulate_cong h.frames (card_at h.edition (upper_case s)) (card_at h.edition s) (λ i l. card_upper h.edition s i),
      )

  seconds_in_upper : (a : Parsed) → seconds_in a (upper_case s) ≡ seconds_in a s
  seconds_in_upper (refused k) = refl
  seconds_in_upper (accepted h cards) =
      tabulate_cong (how_many_seconds h.edition (length cards)) (second_at h.edition (upper_case s)) (second_at h.edition s)
      (λ i l. second_upper h.edition s i)

-- the header
module _ (t : List ℕ) where
  header_upper : header_of (upper_case t) ≡ header_of t
  unfolding header_of
  header_upper = rw (number_upper t 0 2, number_upper t 2 2, number_upper t 4 2, number_upper t 6 4, number_upper t 10 4)

  heading_upper : heading (upper_case t) ≡ heading t
  unfolding heading
  heading_upper = rw (line_upper t 0 header_digits, header_upper)

  pub read_upper : parse (upper_case t) ≡ parse t
  unfolding parse
  read_upper = rw (heading_upper, map_drop upper header_bytes t) (parse_part_upper (drop header_bytes t) (heading t))

  pub seconds_upper : seconds_of (upper_case t) ≡ seconds_of t
  unfolding seconds_of
  seconds_upper = rw (read_upper, map_drop upper header_bytes t) (seconds_in_upper (drop header_bytes t) (parse t))

-- texts that are the same in upper case are read alike
module _ (s t : List ℕ) (e : upper_case s ≡ upper_case t) where
  pub read_alike : parse s ≡ parse t
  read_alike = sym (read_upper s) ∙ ap parse e ∙ read_upper t

  pub seconds_alike : seconds_of s ≡ seconds_of t
  seconds_alike = sym (seconds_upper s) ∙ ap seconds_of e ∙ seconds_upper t
