-- What a walker gives step by step, on any bytes and from any position: the lines from there on, and the end ever after.
-- Assumes nothing.
use Prim.Native.Nat.{ℕ, zero, suc, ◌+◌, ◌≤◌}
use mathlib.Core.Bool.{false, true≢false}
use mathlib.Core.Path.{◌≡◌, refl, sym, ap, ◌∙◌}
use mathlib.Core.List.{List}
use mathlib.Core.Logic.{◌⊎◌, inl, inr}
use native.Mathlib.Omega.{arith}
use native.Mathlib.Nat.{mul-le-mul_left}
use Rattle.counting.proofs.Bits.{by_cases}
use Rattle.header.specs.Editions.{line_bytes}
use Rattle.header.specs.Heading.{edition_of}
use Rattle.walker.specs.Walk.{has_line, end, line_at, place_at, next_at, gives, gives_from, after}
use Rattle.walker.proofs.Bytes.{has_room, room_has, no_line, no_place, moves_on, stays}
use Rattle.walker.specs.declared.Walker.{Walker}

-- where there is no line, there is none later
none_later : (bytes : List ℕ) (p q : ℕ) → p ≤ q → has_line bytes p ≡ false → has_line bytes q ≡ false
none_later bytes p q l n =
    by_cases (has_line bytes q)
    (λ y.
    let r = has_room bytes q y in
    let m = mul-le-mul_left {m = p} {n = q} (line_bytes (edition_of bytes)) l in
    absurd (true≢false (sym (room_has bytes p (omega (arith, r.0)) (omega (arith, r.1, m))) ∙ n)))
    (λ m. m)

module _ (w : Walker) where
  abbrev bytes : List ℕ
  bytes = w.ticket.now

  -- the position after k steps
  abbrev at : ℕ → ℕ
  at k = (after k w).next.0

  same_ticket : (k : ℕ) → (after k w).ticket ≡ w.ticket
  same_ticket zero = refl
  same_ticket (suc k) = same_ticket k

  next_at_is : (k : ℕ) → at (suc k) ≡ next_at bytes (at k)
  next_at_is k = ap (λ x. next_at x.now (at k)) (same_ticket k)

  -- k steps on, or at the end and so before a place that has no line
  abbrev Stands : ℕ → Type 0
  Stands k = (at k ≡ w.next.0 + k) ⊎ ((has_line bytes (at k) ≡ false) × (at k ≤ w.next.0 + k))

  stand : (k : ℕ) → Stands k
  stand zero = inl (omega arith)
  stand (suc k) = elim (stand k) as (λ _. Stands (suc k)) [
    | inl e ↦ by_cases (has_line bytes (at k))
        (λ y. inl (let m = next_at_is k ∙ sym (moves_on bytes (at k) y) in omega (arith, m, e)))
        (λ n. let m = next_at_is k ∙ sym (stays bytes (at k) n) in inr (ap (has_line bytes) m ∙ n, omega (arith, m, e)))
    | inr s ↦ let m = next_at_is k ∙ sym (stays bytes (at k) s.0) in inr (ap (has_line bytes) m ∙ s.0, omega (arith, m, s.1))
  ]

  module _ (k : ℕ) where
    -- what is the same at every place that has no line is the same at both
    same_there : {A : Type 0} (f : ℕ → A) (z : A) → ((p : ℕ) → has_line bytes p ≡ false → z ≡ f p) → f (at k) ≡ f (w.next.0 + k)
    same_there f z none = elim (stand k) as (λ _. f (at k) ≡ f (w.next.0 + k)) [
      | inl e ↦ ap f e
      | inr s ↦ sym (none (at k) s.0) ∙ none (w.next.0 + k) (none_later bytes (at k) (w.next.0 + k) s.1 s.0)
    ]

    -- what step k gives is the line at its own position, counted from where the walker stood
    pub gives_at : gives (after k w) ≡ line_at bytes (w.next.0 + k)
    gives_at = ap (λ x. line_at x.now (at k)) (same_ticket k) ∙ same_there (line_at bytes) end (no_line bytes)

    pub place_at_is : gives_from (after k w) ≡ place_at bytes (w.next.0 + k)
    place_at_is = ap (λ x. place_at x.now (at k)) (same_ticket k) ∙ same_there (place_at bytes) 0 (no_place bytes)
