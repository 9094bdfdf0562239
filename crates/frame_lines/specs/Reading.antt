-- What the functions behind the reader of the lines leave.
-- Assumes nothing.
use Rattle.std.specs.Prelude.{ℕ, ◌*◌, ◌≤◌, ◌<◌, ◌≡◌, cond, List, ◌++◌, ltb, drop}
use Rattle.counting.specs.Count.{tabulate}
use Rattle.text.specs.Text.{is_line}
use Rattle.header.specs.Editions.{line_digits, line_bytes}
use Rattle.frame_lines.specs.Lines.{card_at, line_fault, lines_fault}

-- Of so many lines the first r pass, and the next one, if there is one, does not; their cards are written over the front of `before`.
pub record ReadTo (edition : ℕ) (s : List ℕ) (cards lines : ℕ) (before : List ℕ) (r : ℕ) (after : List ℕ) : Type 0 where
  pub up_to : r ≤ lines
  pub pass : lines_fault edition s cards r ≡ 0
  pub stops : r < lines → line_fault edition s cards r ≡ 0 → ⊥
  pub filled : after ≡ tabulate r (card_at edition s) ++ drop r before

-- the refusal of a line that does not pass
unfoldable pub not_passing : ℕ → List ℕ → ℕ → ℕ → ℕ
not_passing edition s cards i =
    cond (is_line s (line_bytes edition * i) (line_digits edition)) (cond (ltb (card_at edition s i) cards) 17 8) 7
