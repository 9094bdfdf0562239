-- A line that does not pass, judged: from what the tests of its bytes say to its refusal. And a line's second, read by itself.
-- Assumes nothing.
use Prim.Native.Nat.{ℕ, ◌+◌, ◌-◌, ◌*◌, ◌≤◌, ◌<◌}
use mathlib.Core.Path.{◌≡◌, ap}
use mathlib.Core.Bool.{true, false}
use mathlib.Core.List.{List}
use native.Mathlib.Omega.{arith}
use lib.ListN.{length}
use borrow.Author.Tests.{lt-ltb, le-ltb}
use Rattle.text.specs.Text.{digits, number, is_line}
use Rattle.text.proofs.Digits.{digit_at, all_digits, line_long, digits_of_line}
use Rattle.header.specs.Editions.{card_digits, second_digits, line_digits, line_bytes}
use Rattle.header.proofs.Widths.{widest}
use Rattle.frame_lines.specs.Lines.{card_at, second_at}
use Rattle.frame_lines.specs.Reading.{not_passing}
use Rattle.frame_lines.proofs.OneLine.{digits_after}

-- what reading the card of a line asks
pub card_asks :
    (s : List ℕ) (edition at : ℕ) {d : ℕ} → d ≡ line_digits edition → is_line s at d ≡ true
    → (card_digits ≤ 8) × (at + card_digits ≤ length s) × (digits s at card_digits ≡ true)
card_asks s edition at {d} q l = (
  omega arith,
  omega (arith, q, line_long s at d l),
  all_digits s at card_digits (λ i h. digit_at s at d i (digits_of_line s at d l) (omega (arith, q))),
)

module _ (s : List ℕ) (edition cards i : ℕ) {d : ℕ} (q : d ≡ line_digits edition) where
  place : (d + 1) * i ≡ line_bytes edition * i
  place = ap (λ (x : ℕ). (x + 1) * i) q

  there : {b : _} → is_line s ((d + 1) * i) d ≡ b → is_line s (line_bytes edition * i) (line_digits edition) ≡ b
  there l = rw (place, q) at l

  pub judged_7 : is_line s ((d + 1) * i) d ≡ false → 7 ≡ not_passing edition s cards i
  unfolding not_passing
  judged_7 l = rw (there l)

  module _ (l : is_line s ((d + 1) * i) d ≡ true) {card : ℕ} (e : card ≡ number s ((d + 1) * i) card_digits) where
    is_card : card ≡ card_at edition s i
    unfolding card_at
    is_card = rw place at e

    pub judged_17 : card < cards → 17 ≡ not_passing edition s cards i
    unfolding not_passing
    judged_17 h = rw (there l, lt-ltb _ _ (rw is_card at h))

    pub judged_8 : cards ≤ card → 8 ≡ not_passing edition s cards i
    unfolding not_passing
    judged_8 h = rw (there l, le-ltb _ _ (rw is_card at h))

-- what reading the second of a line asks, and what it gives
module _ (s : List ℕ) (edition i : ℕ) {d : ℕ} (q : d ≡ line_digits edition) where
  same_place : (d + 1) * i + card_digits ≡ line_bytes edition * i + card_digits
  same_place = ap (λ (x : ℕ). (x + 1) * i + card_digits) q

  same_digits : d - card_digits ≡ second_digits edition
  same_digits = omega (arith, q)

  pub second_fits : is_line s (line_bytes edition * i) (line_digits edition) ≡ true → (d + 1) * i + d < length s
  second_fits l = omega (arith, q, same_place, line_long s (line_bytes edition * i) (line_digits edition) l)

  pub second_asks :
      is_line s (line_bytes edition * i) (line_digits edition) ≡ true
      → (d - card_digits ≤ 8) × ((d + 1) * i + card_digits + (d - card_digits) ≤ length s)
      × (digits s ((d + 1) * i + card_digits) (d - card_digits) ≡ true)
  second_asks l = (
    omega (arith, same_digits, widest edition),
    omega (arith, same_place, same_digits, line_long s (line_bytes edition * i) (line_digits edition) l),
    rw (same_place, same_digits)
        (digits_after s (line_bytes edition * i) card_digits (second_digits edition) (digits_of_line s (line_bytes edition * i) (line_digits edition) l)),
  )

  pub second_read : number s ((d + 1) * i + card_digits) (d - card_digits) ≡ second_at edition s i
  unfolding second_at
  second_read = rw (same_place, same_digits)
