-- Whether an earlier frame of the same card has the same cycle, looked for from the first frame on.
-- Assumes nothing.
use Prim.Native.Nat.{ℕ, ◌-◌, ◌≤◌, ◌<◌, zero-le}
use mathlib.Core.Path.{◌≡◌, sym, ap, ◌∙◌}
use mathlib.Core.Bool.{Bool, true, false, ◌&&◌}
use mathlib.Core.List.{List}
use native.Mathlib.Omega.{arith}
use lib.Dec.{eqb}
use lib.ListN.{length, get_or}
use Rattle.std.specs.Bool.{MatchBool}
use Rattle.std.specs.List.{range_with_len, HoldsAt, AllWithin}
use Rattle.std.proofs.lemmas.List.FromFn.{length-range_with_len, get_or-range_with_len}
use borrow.Author.Tests.{lt-ltb, le-ltb}
use Rattle.counting.specs.Count.{bit, how_many}
use Rattle.counting.specs.Frames.{card_of}
use Rattle.schedule.specs.Schedule.{cycle_of, o_backlog}
use Rattle.schedule.specs.Verdict.{shares}
use Rattle.counting.proofs.Sums.{sum_term_le, sum_cong, sum_zero}
use Rattle.schedule.proofs.Exact.{apart_alone}

-- frame k has the card and the cycle of frame i
abbrev pub same : List ℕ → List ℕ → ℕ → ℕ → Bool
same cards cycles i k = eqb (card_of cards k) (card_of cards i) && eqb (cycle_of cycles k) (cycle_of cycles i)

module _ (cards cycles : List ℕ) (i : ℕ) where
  abbrev before : List ℕ
  before = range_with_len 0 (i - 0)

  before_at : (k : ℕ) → k < i → get_or before k 0 ≡ k
  before_at k l = omega (arith, get_or-range_with_len 0 (i - 0) k 0 (omega arith))

  before_long : length before ≡ i
  before_long = omega (arith, length-range_with_len 0 (i - 0))

  some_before : (k : ℕ) → k < i → same cards cycles i k ≡ true → true ≡ shares cards cycles i
  some_before k l e =
      sym (lt-ltb 0 (how_many i (same cards cycles i))
      (omega (arith, ap bit e, sum_term_le i (λ j. bit (same cards cycles i j)) k l)))

  none_before : ((k : ℕ) → k < i → same cards cycles i k ≡ false) → false ≡ shares cards cycles i
  none_before none =
      let zero = sum_cong i (λ j. bit (same cards cycles i j)) (λ j. 0) (λ j l. ap bit (none j l)) ∙ sum_zero i in
      sym (le-ltb 0 (how_many i (same cards cycles i)) (omega (arith, zero)))

  -- some earlier frame was found, or none
  pub shared_found :
      (r : Bool)
      → MatchBool r ((k : ℕ) × (k < length before) × HoldsAt (λ j. same cards cycles i j ≡ true) before k)
      (AllWithin (λ j. same cards cycles i j ≡ false) before 0 (length before))
      → r ≡ shares cards cycles i
  shared_found true (k, l, at) =
      let inside : k < i = omega (arith, l, before_long) in
      some_before k inside (ap (same cards cycles i) (sym (before_at k inside)) ∙ at 0)
  shared_found false each =
      none_before (λ k l. ap (same cards cycles i) (sym (before_at k l)) ∙ each k 0 zero-le (omega (arith, l, before_long)))

-- no frame before frame i and of its card has a cycle after `latest`
pub record NoneAfter (cards cycles : List ℕ) (i latest : ℕ) : Type 0 where
  pub each : (j : ℕ) → j < i → card_of cards j ≡ card_of cards i → cycle_of cycles j ≤ latest

-- so none has a later cycle than that
pub not_shared_later : (cards cycles : List ℕ) (i latest : ℕ) → NoneAfter cards cycles i latest
    → latest < cycle_of cycles i → false ≡ shares cards cycles i
not_shared_later cards cycles i latest h l = sym (apart_alone o_backlog 0 cards cycles i (λ j k c e. omega (arith, h.each j k c)))
