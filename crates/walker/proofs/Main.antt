-- The public theorems about the walker: one that is started on a ticket gives the reader's lines in list order and then the end, and
-- one started on a refused ticket only the end. What `start`, `at` and `step` do is their contracts; the definitions are in specs/Walk.antt.
-- Assumes nothing.
use Prim.Native.Nat.{ℕ, zero, suc, ◌+◌, ◌≤◌, ◌<◌}
use mathlib.Core.Path.{◌≡◌, refl, sym, ap, ◌∙◌}
use mathlib.Core.List.{List, [], ◌∷◌, ◌++◌, append_assoc, append-nil}
use native.Mathlib.Nat.{zero-add, add-zero, add-suc}
use native.Mathlib.Omega.{arith}
use lib.ListN.{length, replicate, replicate-append-replicate}
use borrow.Author.Tests.{lt-ltb, le-ltb}
use Rattle.header.specs.declared.Header.{Header}
use Rattle.counting.specs.declared.Position.{Position}
use Rattle.header.specs.Editions.{line_digits}
use Rattle.ticket.specs.Ticket.{accepted, refused, parse, line_of, line_place}
use Rattle.ticket.proofs.Accepted.{its_edition}
use Rattle.ticket.proofs.Answers.{no_line, line_length}
use Rattle.walker.specs.Walk.{end, gives, gives_from, moved_to, after, walk, WalksOn, reader_lines}
use Rattle.walker.specs.declared.Walker.{Walker}
use Rattle.walker.proofs.Same.{a_number, same_line, same_place}
use Rattle.walker.proofs.Steps.{gives_at, place_at_is}

-- where the reader gives no line from position m on, its lines are the first m and then only ends
lines_end :
    (t : List ℕ) (m : ℕ) → ((p : ℕ) → m ≤ p → end ≡ line_of t p) → (n : ℕ) → reader_lines t (m + n) ≡ reader_lines t m ++ replicate n end
lines_end t m none zero = ap (reader_lines t) (add-zero m) ∙ sym (append-nil (reader_lines t m))
lines_end t m none (suc n) =
    ap (reader_lines t) (add-suc m n)
    ∙ rw (lines_end t m none n, ← none (m + n) (omega arith)) (append_assoc (reader_lines t m) (replicate n end) (end ∷ []))
    ∙ ap (λ (x : List (List ℕ)). reader_lines t m ++ x)
    (replicate-append-replicate n 1 end ∙ ap (λ (k : ℕ). replicate k end) (let q : n + 1 ≡ suc n = omega arith in q))

-- With an accepted ticket the first step that gives the end comes after the last line: every line has its digits, 2 or 10.
pub line_not_end :
    (t : List ℕ) (h : Header) (cards : List ℕ) → parse t ≡ accepted h cards → (p : ℕ) → p < length cards
    → length (line_of t p) ≡ line_digits h.edition
line_not_end t h cards e p l = line_length t p (rw (e, lt-ltb p (length cards) l) refl) ∙ ap line_digits (sym (its_edition t h cards e))

-- A walker that is set at another position is on the same ticket.
pub at_walks : (t : List ℕ) (p : ℕ) (w : Walker) (q : Position) → WalksOn t p w → WalksOn t q.0 (moved_to w q)
at_walks t p w q s = record { bytes = s.bytes; position = refl }

-- A walker on a ticket at position p: step k gives the reader's line at position p + k, and it is the same part of the caller's ticket.
-- That holds whatever the text: where the reader gives no line, the step gives the end.
module _ (t : List ℕ) (p : ℕ) (w : Walker) (s : WalksOn t p w) where
  pub step_gives : (k : ℕ) → gives (after k w) ≡ line_of t (p + k)
  step_gives k = gives_at w k ∙ rw (s.bytes, s.position) (same_line t (p + k))

  pub step_place : (k : ℕ) → gives_from (after k w) ≡ line_place t (p + k)
  step_place k = place_at_is w k ∙ rw (s.bytes, s.position) (same_place t (p + k))

-- A walker that was started on a ticket.
module _ (t : List ℕ) (w : Walker) (s : WalksOn t 0 w) where
  walk_gives : (n : ℕ) → walk n w ≡ reader_lines t n
  walk_gives zero = refl
  walk_gives (suc n) = rw (walk_gives n, step_gives t 0 w s n, zero-add n)

  -- "it gives the lines in list order, and "end" after the last": exactly the L lines of the reader, and the end ever after
  pub accepted_walk :
      (h : Header) (cards : List ℕ) → parse t ≡ accepted h cards → (n : ℕ)
      → walk (length cards + n) w ≡ reader_lines t (length cards) ++ replicate n end
  accepted_walk h cards e n =
      walk_gives (length cards + n)
      ∙ lines_end t (length cards) (λ p l. no_line t p {k = 16} (rw (e, le-ltb p (length cards) l)) (λ z. omega (arith, z))) n

  -- "a refused walker only says "end""
  pub refused_walk : (k : ℕ) → parse t ≡ refused k → (n : ℕ) → walk n w ≡ replicate n end
  refused_walk k e n =
      walk_gives n
      ∙ ap (reader_lines t) (sym (zero-add n))
      ∙ lines_end t 0 (λ p l. no_line t p {k = k} (rw e) (a_number t k e)) n
