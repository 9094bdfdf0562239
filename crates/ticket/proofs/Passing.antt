-- The tests of the reader against the plain conditions of specs/Grounds: a line, the header, the frame lines.
-- Assumes nothing.
use Prim.Native.Nat.{ℕ}
use mathlib.Core.Path.{◌≡◌, ◌∙◌}
use mathlib.Core.List.{List}
use Rattle.text.proofs.Lines.{line_true}
use Rattle.header.specs.Heading.{header_digits, header_of, edition_of, heading}
use Rattle.header.proofs.Judged.{judge_accepts, heading_passes}
use Rattle.ticket.specs.Grounds.{HeaderPasses, LinePasses, LinesPass, cards_of, part}
use Rattle.frame_lines.specs.Lines.{line_fault, lines_fault}
use Rattle.frame_lines.proofs.Faults.{line_0, no_fault}
use Rattle.std.specs.Prelude.{Ok}

module _ (t : List ℕ) where
  pub header_accepted : HeaderPasses t → heading t ≡ Ok (header_of t)
  header_accepted p =
      heading_passes t (line_true t 0 header_digits p.line) p.edition
      ∙ judge_accepts (header_of t) p.mode p.cards p.pool p.frames

  module _ (i : ℕ) where
    pub line_accepted : LinePasses t i → line_fault (edition_of t) (part t) (cards_of t) i ≡ 0
    line_accepted p = line_0 (edition_of t) (part t) (cards_of t) i (line_true _ _ _ p.line) p.its_card p.its_second

  pub lines_accepted : (n : ℕ) → LinesPass t n → lines_fault (edition_of t) (part t) (cards_of t) n ≡ 0
  lines_accepted n p = no_fault (edition_of t) (part t) (cards_of t) n (λ i l. line_accepted i (p i l))
