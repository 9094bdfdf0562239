-- The line at a position as an offset and a length: from the part that `ticket::line` hands back.
-- Assumes nothing.
use Prim.Native.Nat.{ℕ}
use mathlib.Core.Path.{◌≡◌, refl, sym, ap, ◌∙◌}
use mathlib.Core.List.{List, []}
use native.Mathlib.Decide.{ℕ_discrete}
use native.Mathlib.Omega.{arith}
use lib.ListN.{length, take, drop}
use Rattle.ticket.specs.Ticket.{parse, line_refusal_of, line_start, line_of, line_place}
use Rattle.ticket.proofs.Answers.{no_line, no_place, line_length, cut_line, the_line, its_place}
use Rattle.plain_answers.specs.Answers.{line_part}

module _ (t : List ℕ) (p : ℕ) where
  -- no line is empty, and an empty part is no line
  line_when : length (line_of t p) ≡ 0 → (0 ≡ line_place t p) × ([] ≡ line_of t p)
  line_when z =
      elim (ℕ_discrete (line_refusal_of (parse t) p) 0) [
        | yes e ↦ absurd (omega (arith, line_length t p (sym e)))
        | no n ↦ (no_place t p refl n, no_line t p refl n)
      ]

  line_there :
      (at : ℕ) → at ≡ line_start t p → (length (line_of t p) ≡ 0 → ⊥)
      → (at ≡ line_place t p) × (take (length (line_of t p)) (drop at t) ≡ line_of t p)
  line_there at a n =
      elim (ℕ_discrete (line_refusal_of (parse t) p) 0) [
        | yes e ↦ (a ∙ its_place t p (sym e), rw (line_length t p (sym e), a) (sym (cut_line t p refl refl) ∙ the_line t p (sym e) refl refl))
        | no m ↦ absurd (n (sym (ap length (no_line t p refl m))))
      ]

  module _ (line : List ℕ) (l : line ≡ line_of t p) where
    pub no_part : length line ≡ 0 → (record { offset = 0; length = 0 } ≡ line_part t p) × ([] ≡ line_of t p)
    no_part z =
        let w = line_when (sym (ap length l) ∙ z) in
        let f : 0 ≡ line_place t p = w.0 in
        let g : 0 ≡ length (line_of t p) = ap length w.1 in
        (rw (← f, ← g) refl, w.1)

    pub the_part :
        (at : ℕ) → at ≡ line_start t p → (length line ≡ 0 → ⊥)
        → (record { offset = at; length = length line } ≡ line_part t p) × (take (length line) (drop at t) ≡ line_of t p)
    the_part at a n =
        let w = line_there at a (λ z. n (ap length l ∙ z)) in
        (rw (l, w.0) refl, rw l w.1)
