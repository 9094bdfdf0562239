-- The seconds of an accepted ticket: how many there are, which, and that they do not fall.
-- Assumes nothing.
use Prim.Native.Nat.{ℕ, suc, ◌^◌, ◌≤◌, ◌<◌}
use mathlib.Core.Path.{◌≡◌, refl, sym, ap, ◌∙◌}
use mathlib.Core.List.{List, []}
use native.Mathlib.Omega.{arith}
use native.Mathlib.Nat.{pow-le-pow_right}
use native.Mathlib.Decide.{ℕ_discrete}
use lib.ListN.{length, get_or-eq_default}
use borrow.Author.Tests.{ne_eqb}
use Rattle.counting.specs.Count.{tabulate}
use Rattle.counting.proofs.Lists.{length_tabulate, get_or_tabulate}
use Rattle.text.proofs.Lines.{line_true}
use Rattle.header.specs.Editions.{edition1, edition2, second_digits}
use Rattle.header.specs.Heading.{edition_of}
use Rattle.header.specs.declared.Header.{Header}
use Rattle.header.proofs.Widths.{no_second, widest}
use Rattle.frame_lines.specs.Lines.{second_at, second_before}
use Rattle.frame_lines.proofs.OneLine.{all_zero, second_small}
use Rattle.ticket.specs.Grounds.{part, frames_of}
use Rattle.ticket.specs.Ticket.{accepted, parse}
use Rattle.ticket.specs.Seconds.{how_many_seconds, seconds_of, second_of, SecondsFit}
use Rattle.ticket.proofs.Accepted.{row, as_many, its_edition}

-- how many
pub as_frames : (edition n : ℕ) → edition ≡ edition2 → how_many_seconds edition n ≡ n
unfolding how_many_seconds
as_frames edition n e = rw e

pub no_seconds : (edition n : ℕ) → (edition ≡ edition2 → ⊥) → how_many_seconds edition n ≡ 0
unfolding how_many_seconds
no_seconds edition n e = rw (ne_eqb edition edition2 e)

pub none_fit : (n : ℕ) → SecondsFit edition1 n []
unfolding how_many_seconds
none_fit n = record { each = refl; small = λ i l. absurd (omega arith); order = λ i l. absurd (omega arith) }

pub up_to_frames : (edition n : ℕ) → how_many_seconds edition n ≤ n
up_to_frames edition n =
    elim (ℕ_discrete edition edition2) [ yes e ↦ omega (arith, as_frames edition n e) | no e ↦ omega (arith, no_seconds edition n e) ]

-- seconds that fit an edition, read at any frame
module _ (edition frames : ℕ) (seconds : List ℕ) (f : SecondsFit edition frames seconds) where
  -- past them, and with none, they are 0
  past : (i : ℕ) → length seconds ≤ i → second_of seconds i ≡ 0
  past i l = get_or-eq_default seconds 0 {n = i} l

  pub all_fit : (i : ℕ) → i < frames → second_of seconds i < 16 ^ second_digits edition
  unfolding second_digits
  all_fit i l =
      elim (ℕ_discrete edition edition2) [
        | yes e ↦ rw e (f.small i (omega (arith, l, f.each, as_frames edition frames e)))
        | no e ↦
            (let z : second_of seconds i ≡ 0 = past i (omega (arith, f.each, no_seconds edition frames e)) in
            rw (ne_eqb edition edition2 e, z) (omega arith))
      ]

  pub all_in_order : (i : ℕ) → suc i < frames → second_of seconds i ≤ second_of seconds (suc i)
  all_in_order i l =
      elim (ℕ_discrete edition edition2) [
        | yes e ↦ f.order i (omega (arith, l, f.each, as_frames edition frames e))
        | no e ↦ omega (arith, past i (omega (arith, f.each, no_seconds edition frames e)))
      ]

module _ (t : List ℕ) (h : Header) (cards : List ℕ) (e : parse t ≡ accepted h cards) where
  abbrev count : ℕ
  count = how_many_seconds h.edition (length cards)

  pub seconds_are : seconds_of t ≡ tabulate count (second_at h.edition (part t))
  unfolding seconds_of
  seconds_are = rw e

  long : length (seconds_of t) ≡ count
  long = ap length seconds_are ∙ length_tabulate count (second_at h.edition (part t))

  at : (i : ℕ) → i < count → second_of (seconds_of t) i ≡ second_at h.edition (part t) i
  at i l = rw seconds_are (get_or_tabulate count (second_at h.edition (part t)) i 0 l)

  -- the second of a frame is the one that stands in its line; in edition 01 both are 0
  pub second_at_is : (i : ℕ) → i < length cards → second_of (seconds_of t) i ≡ second_at h.edition (part t) i
  second_at_is i l =
      elim (ℕ_discrete h.edition edition2) [
        | yes q ↦ at i (omega (arith, l, as_frames h.edition (length cards) q))
        | no q ↦
            (let none : length (seconds_of t) ≤ i = omega (arith, long, no_seconds h.edition (length cards) q) in
            get_or-eq_default (seconds_of t) 0 {n = i} none ∙ sym (all_zero h.edition (part t) (no_second h.edition q) i))
      ]

  pub second_past : (i : ℕ) → length cards ≤ i → second_of (seconds_of t) i ≡ 0
  second_past i l =
      let past : length (seconds_of t) ≤ i = omega (arith, l, long, up_to_frames h.edition (length cards)) in
      get_or-eq_default (seconds_of t) 0 {n = i} past

  -- a frame that has a second has a line
  framed : (i : ℕ) → i < length (seconds_of t) → i < length cards
  framed i l = omega (arith, l, long, up_to_frames h.edition (length cards))

  in_text : (i : ℕ) → i < length cards → i < frames_of t
  in_text i l = rw (as_many t h cards e, (row t h cards e).its_header) at l

  small : (i : ℕ) → i < length (seconds_of t) → second_of (seconds_of t) i < 16 ^ 8
  small i l =
      let k = framed i l in
      let line = line_true _ _ _ ((row t h cards e).lines i (in_text i k)).line in
      let s : second_at h.edition (part t) i < 16 ^ second_digits h.edition =
      rw (its_edition t h cards e) (second_small (edition_of t) (part t) i line) in
      omega (arith, second_at_is i k, s, pow-le-pow_right {n = 16} (omega arith) (widest h.edition))

  not_falling : (i : ℕ) → suc i < frames_of t → second_at (edition_of t) (part t) i ≤ second_at (edition_of t) (part t) (suc i)
  unfolding second_before
  not_falling i l = ((row t h cards e).lines (suc i) l).its_second

  order : (i : ℕ) → suc i < length (seconds_of t) → second_of (seconds_of t) i ≤ second_of (seconds_of t) (suc i)
  order i l =
      let k = framed (suc i) l in
      rw (second_at_is i (omega (arith, k)), second_at_is (suc i) k, its_edition t h cards e) (not_falling i (in_text (suc i) k))

  pub seconds_fit : SecondsFit h.edition (length cards) (seconds_of t)
  seconds_fit = record { each = long; small = small; order = order }
