-- The frame lines of a ticket (document 01, "The ticket, edition 1" and "Grounds for turning a ticket or call down", and request 2026-02): a
-- frame's card, its capture second, and the refusals 7, 8, 17 and 9. The editions differ in `line_digits` and `second_digits` alone.
--
-- Edge cases: no lines at all; a part cut short is refused by 7 at the line that is cut; the first line's second may be any.
-- Assumes nothing.
use Rattle.std.specs.Prelude.{ℕ, zero, suc, ◌+◌, ◌*◌, Bool, cond, List, ◌++◌, eqb, ltb, length, drop}
use Rattle.counting.specs.Count.{how_many, tabulate}
use Rattle.text.specs.Text.{number, is_line}
use Rattle.header.specs.Editions.{card_digits, second_digits, line_digits, line_bytes}

-- A refusal, or, where there is none, what is refused next.
abbrev pub or_else : ℕ → ℕ → ℕ
or_else e next = cond (eqb e 0) next e

-- The frame lines of an edition, in "the part of the ticket that starts after its header".
module _ (edition : ℕ) (s : List ℕ) where
  -- "the card (2) ..
  unfoldable pub card_at : ℕ → ℕ
  card_at i = number s (line_bytes edition * i) card_digits

  -- .. and the capture second (8)" of frame i; 0 in edition 01, whose lines have none
  unfoldable pub second_at : ℕ → ℕ
  second_at i = number s (line_bytes edition * i + card_digits) (second_digits edition)

  -- the second of the line before line i; 0, which no second is lower than, before the first
  unfoldable pub second_before : ℕ → ℕ
  second_before zero = 0
  second_before (suc i) = second_at i

  -- "a second lower than the line before"
  abbrev pub falls : ℕ → Bool
  falls i = ltb (second_at i) (second_before i)

  -- The refusal of line i, 7 before 8 before 17; 0 for none.
  unfoldable pub line_fault : ℕ → ℕ → ℕ
  line_fault cards i =
      cond (is_line s (line_bytes edition * i) (line_digits edition)) (cond (ltb (card_at i) cards) (cond (falls i) 17 0) 8) 7

  -- "line by line": the refusal of the first of n lines that has one; 0 for none
  unfoldable pub lines_fault : ℕ → ℕ → ℕ
  lines_fault cards zero = 0
  lines_fault cards (suc n) = or_else (lines_fault cards n) (line_fault cards n)

  -- The refusal of a part that should be n lines, with 9 after the lines' own; 0 for none.
  unfoldable pub part_fault : ℕ → ℕ → ℕ
  part_fault cards n = or_else (lines_fault cards n) (cond (ltb (line_bytes edition * n) (length s)) 9 0)

  -- how many of n lines pass before the first that does not
  unfoldable pub lines_passing : ℕ → ℕ → ℕ
  lines_passing cards n = how_many n (λ i. eqb (lines_fault cards (suc i)) 0)

  -- lent memory with the cards of these lines over its front
  unfoldable pub cards_read : ℕ → ℕ → List ℕ → List ℕ
  cards_read cards n memory = tabulate (lines_passing cards n) card_at ++ drop (lines_passing cards n) memory
