-- The call answers as the rows of the grounds say, and no other answer fits them; and what its number tells.
-- Assumes nothing.
use Prim.Native.Nat.{ℕ, ◌-◌, ◌≤◌, ◌<◌}
use mathlib.Core.Path.{◌≡◌, sym, ap, ◌∙◌}
use mathlib.Core.Bool.{Bool, true, false, ◌&&◌, true≢false}
use mathlib.Core.List.{List}
use native.Mathlib.Omega.{arith}
use lib.Dec.{leb, ltb}
use lib.ListN.{length}
use borrow.Author.Tests.{le-leb, lt-leb, leb-true, leb-false, le-ltb, lt-ltb, ltb-true, ltb-false}
use Rattle.counting.specs.Count.{largest}
use Rattle.counting.proofs.Bits.{by_cases, and_left, and_right}
use Rattle.counting.proofs.Lists.{length_tabulate, le_largest, largest_le, largest_met}
use Rattle.header.specs.Limits.{max_frames}
use Rattle.hub.specs.Gather.{max_cameras, camera_of, card_for, hub_cards, known_patterns, gather_of, answer_of, answer_for}
use Rattle.hub.specs.Grounds.{Known, Seen, Fits, Says, row20, row6, row21, row10, none}
use Rattle.hub.specs.Numbers.{numbers_of}
use Rattle.hub.specs.Patterns.{hub_size}
use Rattle.std.specs.Prelude.{Result, Ok, Err}

-- what the largest pattern and the largest camera number tell

module _ (chosen : List ℕ) where
  pub known_from : 1 ≤ length chosen → length chosen ≤ max_cameras → largest chosen < hub_size → Known chosen
  known_from some few low = record { count = (some, few); pattern = λ q l. omega (arith, le_largest chosen q) }

  low_patterns : Known chosen → largest chosen < hub_size
  low_patterns k = omega (arith, largest_le chosen 7 (λ q l. omega (arith, k.pattern q l)))

  pub not_known : hub_size ≤ largest chosen → Known chosen → ⊥
  not_known high k = omega (arith, low_patterns k)

  module _ (cameras : List ℕ) where
    seen_from : largest cameras < length chosen → Seen chosen cameras
    seen_from low i l = omega (arith, le_largest cameras i)

    pub low_cameras : 1 ≤ length chosen → Seen chosen cameras → largest cameras < length chosen
    low_cameras some s = omega (arith, largest_le cameras (length chosen - 1) (λ i l. omega (arith, s i l)))

    not_seen : 1 ≤ length chosen → length chosen ≤ largest cameras → (i : ℕ) × (i < length cameras) × (length chosen ≤ camera_of cameras i)
    not_seen some high = let met = largest_met cameras (omega arith) in (met.0, met.1, omega (arith, met.2))

-- the rows after 6, by these numbers
module _
    (chosen cameras : List ℕ) (places : ℕ) (some : 1 ≤ length chosen) (few : length chosen ≤ max_cameras) (low : largest chosen < hub_size)
    (short : length cameras ≤ max_frames) where
  pub camera_row : length chosen ≤ largest cameras → Says chosen cameras places (Err 21)
  camera_row high = let unseen = not_seen chosen cameras some high in row21 (known_from chosen some few low) short unseen.0 unseen.1 unseen.2

  pub room_row : largest cameras < length chosen → places < length cameras → Says chosen cameras places (Err 10)
  room_row seen less = row10 (known_from chosen some few low) short (seen_from chosen cameras seen) less

  pub no_row : largest cameras < length chosen → length cameras ≤ places → Says chosen cameras places (Ok (length cameras))
  no_row seen room = none (record { known = known_from chosen some few low; few = short; seen = seen_from chosen cameras seen; room = room })

-- the tests of the definition

module _ (chosen : List ℕ) where
  abbrev counted : Bool
  counted = leb 1 (length chosen) && leb (length chosen) max_cameras

  is_known : known_patterns chosen ≡ true → Known chosen
  is_known e =
      let count = and_left counted (ltb (largest chosen) hub_size) e in
      known_from chosen
      (leb-true 1 (length chosen) (and_left (leb 1 (length chosen)) (leb (length chosen) max_cameras) count))
      (leb-true (length chosen) max_cameras (and_right (leb 1 (length chosen)) (leb (length chosen) max_cameras) count))
      (ltb-true (largest chosen) hub_size (and_right counted (ltb (largest chosen) hub_size) e))

  pub known_is : Known chosen → known_patterns chosen ≡ true
  known_is k =
      rw (
        le-leb 1 (length chosen) k.count.0,
        le-leb (length chosen) max_cameras k.count.1,
        lt-ltb (largest chosen) hub_size (low_patterns chosen k),
      )

  unknown_is : (Known chosen → ⊥) → known_patterns chosen ≡ false
  unknown_is n = by_cases (known_patterns chosen) (λ e. absurd (n (is_known e))) (λ e. e)

-- the answer

pub as_many : (chosen cameras : List ℕ) → length (hub_cards chosen cameras) ≡ length cameras
unfolding hub_cards
as_many chosen cameras = length_tabulate (length cameras) (card_for chosen cameras)

module _ (chosen cameras : List ℕ) (places : ℕ) where
  abbrev answer : Result ℕ ℕ
  answer = answer_for chosen cameras places

  -- a row's answer is the call's
  pub says_only : (r : Result ℕ ℕ) → Says chosen cameras places r → r ≡ answer
  unfolding gather_of answer_of
  says_only r (row20 n) = rw (unknown_is chosen n)
  says_only r (row6 k long) = rw (known_is chosen k, lt-ltb max_frames (length cameras) long)
  says_only r (row21 k few i l high) =
      let top : length chosen ≤ largest cameras = omega (arith, le_largest cameras i) in
      rw (known_is chosen k, le-ltb max_frames (length cameras) few, le-leb (length chosen) (largest cameras) top)
  says_only r (row10 k few s short) =
      let low = low_cameras chosen cameras k.count.0 s in
      rw (
        known_is chosen k,
        le-ltb max_frames (length cameras) few,
        lt-leb (length chosen) (largest cameras) low,
        lt-ltb places (length cameras) short,
      )
  says_only r (none f) =
      let low = low_cameras chosen cameras f.known.count.0 f.seen in
      rw (
        known_is chosen f.known,
        le-ltb max_frames (length cameras) f.few,
        lt-leb (length chosen) (largest cameras) low,
        le-ltb places (length cameras) f.room,
        as_many chosen cameras,
      )

  -- and the call's answer is a row's
  pub says : Says chosen cameras places answer
  says =
      by_cases (known_patterns chosen)
      (λ a.
      let k = is_known chosen a in
      let low = low_patterns chosen k in
      by_cases (ltb max_frames (length cameras))
      (λ b. found (row6 k (ltb-true max_frames (length cameras) b)))
      (λ b.
      let short = ltb-false max_frames (length cameras) b in
      by_cases (leb (length chosen) (largest cameras))
      (λ d. found (camera_row chosen cameras places k.count.0 k.count.1 low short (leb-true (length chosen) (largest cameras) d)))
      (λ d.
      let seen = leb-false (length chosen) (largest cameras) d in
      by_cases (ltb places (length cameras))
      (λ e. found (room_row chosen cameras places k.count.0 k.count.1 low short seen (ltb-true places (length cameras) e)))
      (λ e. found (no_row chosen cameras places k.count.0 k.count.1 low short seen (ltb-false places (length cameras) e))))))
      (λ a. found (row20 (λ k. true≢false (sym (known_is chosen k) ∙ a))))
    where
      found : {r : Result ℕ ℕ} → Says chosen cameras places r → Says chosen cameras places answer
      found {r} s = rw (sym (says_only r s)) s

  -- its number
  pub number_says : (r : Result ℕ ℕ) → Says chosen cameras places r → (numbers_of r).refusal ≡ (numbers_of answer).refusal
  number_says r s = ap (λ (x : Result ℕ ℕ). (numbers_of x).refusal) (says_only r s)

  pub refused_is : (k : ℕ) → k ≡ (numbers_of answer).refusal → (k ≡ 0 → ⊥) → Err k ≡ answer
  refused_is k e n = go answer says e
    where
      go : (r : Result ℕ ℕ) → Says chosen cameras places r → k ≡ (numbers_of r).refusal → Err k ≡ r
      go r (row20 _) e = ap Err e
      go r (row6 _ _) e = ap Err e
      go r (row21 _ _ _ _ _) e = ap Err e
      go r (row10 _ _ _ _) e = ap Err e
      go r (none _) e = absurd (n e)

  -- with no refusal there was no ground
  pub no_ground : 0 ≡ (numbers_of answer).refusal → Fits chosen cameras places
  no_ground e = go answer says e
    where
      go : (r : Result ℕ ℕ) → Says chosen cameras places r → 0 ≡ (numbers_of r).refusal → Fits chosen cameras places
      go r (row20 _) e = absurd (omega arith)
      go r (row6 _ _) e = absurd (omega arith)
      go r (row21 _ _ _ _ _) e = absurd (omega arith)
      go r (row10 _ _ _ _) e = absurd (omega arith)
      go r (none f) e = f
