-- The lines of a whole part, from what was read of it: the refusal, and what memory holds.
-- Assumes nothing.
use Prim.Native.Nat.{ℕ, ◌+◌, ◌*◌, ◌/◌, ◌≤◌, ◌<◌}
use mathlib.Core.Path.{◌≡◌, sym, ap, ◌∙◌}
use mathlib.Core.List.{List}
use native.Mathlib.Omega.{arith}
use native.Mathlib.Decide.{dec_lt}
use lib.ListN.{length}
use Rattle.text.proofs.Digits.{line_long}
use Rattle.header.specs.Editions.{line_digits, line_bytes}
use Rattle.frame_lines.specs.Lines.{line_fault, lines_fault, part_fault, cards_read}
use Rattle.frame_lines.specs.Reading.{ReadTo, not_passing}
use Rattle.frame_lines.proofs.Faults.{passing, fault_of, refuses, passing_are}
use Rattle.frame_lines.proofs.Places.{whole_inside, not_whole}

-- an edition in another word
pub same_edition :
    {edition other : ℕ} {s : List ℕ} {cards lines : ℕ} {before : List ℕ} {r : ℕ} {after : List ℕ} → edition ≡ other
    → ReadTo other s cards lines before r after → ReadTo edition s cards lines before r after
same_edition q read = rw q read

-- the width as the code has it
pub whole_lines : (edition long : ℕ) {d : ℕ} → d ≡ line_digits edition → long / (d + 1) ≡ long / line_bytes edition
whole_lines edition long q = ap (λ (x : ℕ). long / (x + 1)) q

pub same_bytes : (edition n : ℕ) {d : ℕ} → d ≡ line_digits edition → (d + 1) * n ≡ line_bytes edition * n
same_bytes edition n q = ap (λ (x : ℕ). (x + 1) * n) q

-- lines that a text has whole fit in it
pub lines_fit : (edition lines : ℕ) (s : List ℕ) → lines ≤ length s / line_bytes edition → line_bytes edition * lines ≤ length s
lines_fit edition lines s l = whole_inside (line_bytes edition) (length s) lines l

-- of n lines so many were read, up to the first that does not pass: all n, or those that the text has whole
module _
    (edition : ℕ) (s : List ℕ) (cards n lines : ℕ) (before after : List ℕ) (r : ℕ) (few : lines ≤ n)
    (whole : lines < n → length s / line_bytes edition ≤ lines) (q : ReadTo edition s cards lines before r after) where
  -- fewer than n pass: the next line does not, also where the text ends within it
  not_next : r < n → line_fault edition s cards r ≡ 0 → ⊥
  not_next l z =
      elim (dec_lt r lines) [
        | yes k ↦ q.stops k z
        | no k ↦
            (let long = line_long s (line_bytes edition * r) (line_digits edition) (passing edition s cards r z).0 in
            not_whole (line_bytes edition) (length s) r (omega arith) (omega (arith, q.up_to, whole (omega arith))) (omega (arith, long)))
      ]

  refused_next : {k : ℕ} → k ≡ not_passing edition s cards r → r < n → k ≡ part_fault edition s cards n
  refused_next {k} f l =
      let g : line_fault edition s cards r ≡ k = fault_of edition s cards r (not_next l) ∙ sym f in
      sym (refuses edition s cards n r k l q.pass g (λ z. not_next l (g ∙ z)))

  -- all n pass
  pub all_pass : n ≤ r → lines_fault edition s cards n ≡ 0
  all_pass l = let m : r ≡ n = omega (arith, q.up_to) in rw m at q.pass

  -- what memory has then
  pub memory_read : after ≡ cards_read edition s cards n before
  unfolding cards_read
  memory_read = rw (passing_are edition s cards n r (omega (arith, q.up_to)) q.pass not_next) q.filled

  -- a part that is refused: its refusal and memory
  pub read_refused :
      {k : ℕ} → k ≡ not_passing edition s cards r → r < n → (k ≡ part_fault edition s cards n) × (after ≡ cards_read edition s cards n before)
  read_refused f l = (refused_next f l, memory_read)
