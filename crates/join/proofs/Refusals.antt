-- The refusals 18, 19 and 10 of two tickets that are accepted.
-- Assumes nothing.
use Prim.Native.Nat.{ℕ, ◌+◌, ◌*◌, ◌≤◌, ◌<◌}
use mathlib.Core.Path.{◌≡◌, sym, ◌∙◌}
use mathlib.Core.Bool.{Bool, true, false, ◌&&◌}
use native.Mathlib.Omega.{arith}
use native.Mathlib.Decide.{dec_lt}
use lib.Dec.{eqb}
use borrow.Author.Tests.{eqb-true, eq-eqb, ne_eqb, lt-ltb, le-ltb}
use Rattle.counting.proofs.Bits.{by_cases, and_left, and_right}
use Rattle.header.specs.Editions.{edition2, second_digits}
use Rattle.header.specs.Limits.{mode_read, max_frames}
use Rattle.header.specs.declared.Header.{Header}
use Rattle.join.specs.Join.{timed_read, joinable, CanJoin}
use Rattle.join.specs.Steps.{together, pair_refusal}

-- two headers, field by field
module _ (g h : Header) where
  pub first_edition : (g.edition ≡ edition2 → ⊥) → false ≡ joinable g h
  unfolding joinable
  first_edition n = rw (ne_eqb g.edition edition2 n)

  module _ (a : g.edition ≡ edition2) where
    pub first_mode : (g.mode ≡ mode_read → ⊥) → false ≡ joinable g h
    unfolding joinable
    first_mode n = rw (eq-eqb g.edition edition2 a, ne_eqb g.mode mode_read n)

    module _ (b : g.mode ≡ mode_read) where
      pub second_edition : (h.edition ≡ edition2 → ⊥) → false ≡ joinable g h
      unfolding joinable
      second_edition n = rw (eq-eqb g.edition edition2 a, eq-eqb g.mode mode_read b, ne_eqb h.edition edition2 n)

      module _ (c : h.edition ≡ edition2) where
        pub second_mode : (h.mode ≡ mode_read → ⊥) → false ≡ joinable g h
        unfolding joinable
        second_mode n =
            rw (eq-eqb g.edition edition2 a, eq-eqb g.mode mode_read b, eq-eqb h.edition edition2 c, ne_eqb h.mode mode_read n)

        module _ (d : h.mode ≡ mode_read) where
          pub other_cards : (g.cards ≡ h.cards → ⊥) → false ≡ joinable g h
          unfolding joinable
          other_cards n =
              rw (
                eq-eqb g.edition edition2 a,
                eq-eqb g.mode mode_read b,
                eq-eqb h.edition edition2 c,
                eq-eqb h.mode mode_read d,
                ne_eqb g.cards h.cards n,
              )

          pub then_pool : g.cards ≡ h.cards → eqb g.pool h.pool ≡ joinable g h
          unfolding joinable
          then_pool e =
              rw (
                eq-eqb g.edition edition2 a,
                eq-eqb g.mode mode_read b,
                eq-eqb h.edition edition2 c,
                eq-eqb h.mode mode_read d,
                eq-eqb g.cards h.cards e,
              )

-- 18, 19, 10 and none
module _ (g h : Header) (places : ℕ) where
  pub not_joinable : false ≡ joinable g h → 18 ≡ pair_refusal g h places
  unfolding pair_refusal
  not_joinable e = rw (← e)

  module _ (e : true ≡ joinable g h) where
    pub too_many : max_frames < together g h → 19 ≡ pair_refusal g h places
    unfolding pair_refusal
    too_many l = rw (← e, lt-ltb max_frames (together g h) l)

    module _ (few : together g h ≤ max_frames) where
      pub no_room : places < 15 + 11 * together g h → 10 ≡ pair_refusal g h places
      unfolding pair_refusal second_digits
      no_room l = rw (← e, le-ltb max_frames (together g h) few, lt-ltb places (15 + 11 * together g h) l)

      pub no_refusal : 15 + 11 * together g h ≤ places → 0 ≡ pair_refusal g h places
      unfolding pair_refusal second_digits
      no_refusal l = rw (← e, le-ltb max_frames (together g h) few, le-ltb places (15 + 11 * together g h) l)

  -- what holds where there is none
  pub passes : 0 ≡ pair_refusal g h places → (joinable g h ≡ true) × (together g h ≤ max_frames) × (15 + 11 * together g h ≤ places)
  passes z =
      by_cases (joinable g h)
      (λ e.
      elim (dec_lt max_frames (together g h)) [
        | yes l ↦ absurd (omega (arith, too_many (sym e) l))
        | no l ↦
            elim (dec_lt places (15 + 11 * together g h)) [
              | yes k ↦ absurd (omega (arith, no_room (sym e) (omega arith) k))
              | no k ↦ (e, omega arith, omega arith)
            ]
      ])
      (λ e. absurd (omega (arith, not_joinable (sym e))))

-- tickets that can be joined are edition 02 reads with the same cards and pool
module _ (g h : Header) (e : joinable g h ≡ true) where
  abbrev alike : Bool
  alike = eqb g.cards h.cards && eqb g.pool h.pool

  both_timed : (timed_read g && timed_read h) ≡ true
  unfolding joinable
  both_timed = and_left (timed_read g && timed_read h) alike e

  both_alike : alike ≡ true
  unfolding joinable
  both_alike = and_right (timed_read g && timed_read h) alike e

  pub first_timed : g.edition ≡ edition2
  first_timed = eqb-true _ _ (and_left (eqb g.edition edition2) (eqb g.mode mode_read) (and_left (timed_read g) (timed_read h) both_timed))

  pub second_timed : h.edition ≡ edition2
  second_timed = eqb-true _ _ (and_left (eqb h.edition edition2) (eqb h.mode mode_read) (and_right (timed_read g) (timed_read h) both_timed))

  pub first_reads : g.mode ≡ mode_read
  first_reads = eqb-true _ _ (and_right (eqb g.edition edition2) (eqb g.mode mode_read) (and_left (timed_read g) (timed_read h) both_timed))

  pub second_reads : h.mode ≡ mode_read
  second_reads = eqb-true _ _ (and_right (eqb h.edition edition2) (eqb h.mode mode_read) (and_right (timed_read g) (timed_read h) both_timed))

  pub same_cards : g.cards ≡ h.cards
  same_cards = eqb-true _ _ (and_left (eqb g.cards h.cards) (eqb g.pool h.pool) both_alike)

  pub same_pool : g.pool ≡ h.pool
  same_pool = eqb-true _ _ (and_right (eqb g.cards h.cards) (eqb g.pool h.pool) both_alike)

  pub can_join : CanJoin g h
  can_join =
      record {
        first_edition = first_timed;
        first_mode = first_reads;
        second_edition = second_timed;
        second_mode = second_reads;
        same_cards = same_cards;
        same_pool = same_pool;
      }

pub joins : (g h : Header) → CanJoin g h → joinable g h ≡ true
joins g h c =
    sym (then_pool g h c.first_edition c.first_mode c.second_edition c.second_mode c.same_cards)
    ∙ eq-eqb g.pool h.pool c.same_pool
