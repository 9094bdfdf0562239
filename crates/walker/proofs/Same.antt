-- The line of the bytes that a walker goes through is the reader's line: for every text and every position.
-- Assumes nothing.
use Prim.Native.Nat.{ℕ, ◌+◌, ◌*◌, ◌≤◌}
use mathlib.Core.Bool.{Bool, true, false, cond}
use mathlib.Core.Path.{◌≡◌, refl, sym, ap, ◌∙◌}
use mathlib.Core.List.{List}
use native.Mathlib.Omega.{arith}
use lib.Dec.{eqb, ltb}
use lib.ListN.{length}
use native.Mathlib.Nat.{mul-le-mul_left}
use borrow.Author.Tests.{ne_eqb, ltb-true, ltb-false}
use Rattle.counting.proofs.Bits.{by_cases}
use Rattle.header.specs.declared.Header.{Header}
use Rattle.header.specs.Editions.{line_bytes}
use Rattle.header.specs.Heading.{header_bytes, edition_of}
use Rattle.frame_lines.proofs.Places.{place_inside}
use Rattle.ticket.proofs.Accepted.{its_edition}
use Rattle.ticket.specs.Ticket.{accepted, refused, parse, line_start, line_in, line_of, line_place}
use Rattle.ticket.proofs.Main.{accepted_length, accepted_few}
use Rattle.ticket.proofs.Reader.{refusal_above}
use Rattle.walker.specs.Walk.{opened, has_line, end, line_at, place_at}
use Rattle.walker.proofs.Bytes.{none_left, whole, has_room, room_has, no_line, no_place}

-- a refusal has a number
pub a_number : (t : List ℕ) (k : ℕ) → parse t ≡ refused k → k ≡ 0 → ⊥
a_number t k e z = omega (arith, z, refusal_above t k e)

-- a refusal that comes where a test fails is none where it holds
tested : {A : Type 0} (b : Bool) (x y : A) → cond b x y ≡ cond (eqb (cond b 0 16) 0) x y
tested true x y = refl
tested false x y = refl

module _ (t : List ℕ) (p : ℕ) where
  module _ (h : Header) (cards : List ℕ) (e : parse t ≡ accepted h cards) where
    has : has_line t p ≡ ltb p (length cards)
    has =
        let n : length t ≡ line_start t (length cards) =
        accepted_length t h cards e ∙ ap (λ (k : ℕ). header_bytes + line_bytes k * length cards) (its_edition t h cards e) in
        let f = accepted_few t h cards e in
        by_cases (ltb p (length cards))
        (λ y.
        let l = ltb-true p (length cards) y in
        let r = place_inside (line_bytes (edition_of t)) p (length cards) l in
        room_has t p (omega (arith, l, f)) (omega (arith, r, n)) ∙ sym y)
        (λ z.
        by_cases (has_line t p)
        (λ y.
        let past : length cards ≤ p = ltb-false p (length cards) z in
        absurd (omega (arith, (has_room t p y).1, n, mul-le-mul_left {m = length cards} {n = p} (line_bytes (edition_of t)) past)))
        (λ m. m ∙ sym z))

    all : opened t ≡ t
    all = sym (whole t (rw e))

    line_read : line_at (opened t) p ≡ line_of t p
    unfolding line_at line_of
    line_read = rw (all, has, e) (tested (ltb p (length cards)) (line_in t p) end)

    place_read : place_at (opened t) p ≡ line_place t p
    unfolding place_at line_place
    place_read = rw (all, has, e) (tested (ltb p (length cards)) (line_start t p) 0)

  module _ (k : ℕ) (e : parse t ≡ refused k) where
    none : opened t ≡ end
    none = sym (none_left t {k = k} (rw e) (a_number t k e))

    nothing : has_line end p ≡ false
    nothing = by_cases (has_line end p) (λ y. absurd (omega (arith, (has_room end p y).1))) (λ m. m)

    line_refused : line_at (opened t) p ≡ line_of t p
    unfolding line_of
    line_refused = rw (none, e, ne_eqb k 0 (a_number t k e)) (sym (no_line end p nothing))

    place_refused : place_at (opened t) p ≡ line_place t p
    unfolding line_place
    place_refused = rw (none, e, ne_eqb k 0 (a_number t k e)) (sym (no_place end p nothing))

  pub same_line : line_at (opened t) p ≡ line_of t p
  same_line = (elim (parse t) as (λ a. parse t ≡ a → line_at (opened t) p ≡ line_of t p) [
    | accepted h cards ↦ line_read h cards
    | refused k ↦ line_refused k
  ]) refl

  pub same_place : place_at (opened t) p ≡ line_place t p
  same_place = (elim (parse t) as (λ a. parse t ≡ a → place_at (opened t) p ≡ line_place t p) [
    | accepted h cards ↦ place_read h cards
    | refused k ↦ place_refused k
  ]) refl
