-- The hub uses its cards evenly. Of any w frames of a camera, one after the other, each card has w / 8 or one more; so in every part of the list the loads
-- of two cards differ by at most one for each camera, however the cameras alternate.
-- Assumes nothing.
use Prim.Native.Nat.{ℕ, zero, suc, ◌+◌, ◌-◌, ◌/◌, ◌%◌, ◌≤◌, ◌<◌}
use mathlib.Core.Path.{◌≡◌, refl, sym, ap, ◌∙◌}
use mathlib.Core.Bool.{◌&&◌}
use mathlib.Core.List.{List, reverse}
use native.Mathlib.Omega.{arith}
use native.Mathlib.Numerals.{add-one}
use native.Mathlib.Nat.{add-zero}
use lib.Dec.{eqb}
use lib.ListN.{length, get_or, length-reverse}
use borrow.Author.Tests.{eqb-true}
use Rattle.counting.specs.Count.{bit, sum, how_many}
use Rattle.counting.specs.Frames.{card_of, load}
use Rattle.counting.proofs.Bits.{by_cases}
use Rattle.counting.proofs.Counted.{load_reverse}
use Rattle.counting.proofs.Lists.{get_or_tabulate}
use Rattle.counting.proofs.Sums.{sum_mono, sum_cong, sum_add, sum_one, sum_longer, over_cards}
use Rattle.schedule.specs.Loads.{Even}
use Rattle.hub.specs.Gather.{camera_of, taken, pattern_of, card_for, hub_cards}
use Rattle.hub.specs.Grounds.{Known, Seen}
use Rattle.hub.specs.Patterns.{hub_size, NamesEvery, visits}
use Rattle.hub.proofs.Named.{patterns_name}
use Rattle.hub.proofs.Refusals.{as_many}

-- one camera

module _ (pattern : ℕ → ℕ) (names : NamesEvery pattern) (c : ℕ) (inside : c < hub_size) where
  eight_more : (u : ℕ) → visits pattern c (u + 8) ≡ suc (visits pattern c u)
  eight_more zero = omega (arith, names.each_once c inside)
  eight_more (suc u) =
      let next : suc u + 8 ≡ suc (u + 8) = omega arith in
      let same : (u + 8) % 8 ≡ u % 8 = omega arith in
      rw next (omega (arith, eight_more u, ap (λ k. bit (eqb (pattern k) c)) same))

  -- among any w frames, one after the other, w / 8 or one more are on card c
  pub window : (u w : ℕ) → (visits pattern c u + w / 8 ≤ visits pattern c (u + w)) × (visits pattern c (u + w) ≤ suc (visits pattern c u + w / 8))
  window u w = go (w / 8) w refl
    where
      go : (a w : ℕ) → w / 8 ≡ a → (visits pattern c u + a ≤ visits pattern c (u + w)) × (visits pattern c (u + w) ≤ suc (visits pattern c u + a))
      go zero w e =
          omega (
            arith,
            eight_more u,
            sum_longer u (u + w) (λ k. bit (eqb (pattern (k % 8)) c)) (omega arith),
            sum_longer (u + w) (u + 8) (λ k. bit (eqb (pattern (k % 8)) c)) (omega arith),
          )
      go (suc a) w e =
          let back : u + w ≡ (u + (w - 8)) + 8 = omega arith in
          rw back (omega (arith, eight_more (u + (w - 8)), go a (w - 8) (omega arith)))

-- all cameras, alternating in any way

module _ (chosen cameras : List ℕ) (known : Known chosen) (seen : Seen chosen cameras) where
  abbrev S : ℕ
  S = length chosen

  abbrev cards : List ℕ
  cards = hub_cards chosen cameras

  names : (q : ℕ) → q < S → NamesEvery (pattern_of chosen q)
  names q l = patterns_name (get_or chosen q 0) (known.pattern q l)

  card_is : (i : ℕ) → i < length cameras → card_of cards i ≡ card_for chosen cameras i
  unfolding hub_cards
  card_is i l = get_or_tabulate (length cameras) (card_for chosen cameras) i 0 l

  size : length cards ≡ length cameras
  size = as_many chosen cameras

  pub inside_hub : (i : ℕ) → i < length cards → card_of cards i < hub_size
  inside_hub i l =
      let inside : i < length cameras = omega (arith, size) in
      rw (card_is i inside) ((names (camera_of cameras i) (seen i inside)).inside_hub _ (omega arith))

  -- the frames of one camera on one card
  camera_load :
      (q c n : ℕ)
      → how_many n (λ i. eqb (camera_of cameras i) q && eqb (card_for chosen cameras i) c) ≡ visits (pattern_of chosen q) c (taken cameras n q)
  camera_load q c zero = refl
  camera_load q c (suc n) =
      by_cases (eqb (camera_of cameras n) q)
      (λ e.
      let same : camera_of cameras n ≡ q = eqb-true (camera_of cameras n) q e in
      rw (e, add-one (taken cameras n q))
      (omega (arith, camera_load q c n, ap (λ x. bit (eqb (pattern_of chosen x (taken cameras n x % hub_size)) c)) same)))
      (λ e. rw (e, add-zero (taken cameras n q)) (omega (arith, camera_load q c n)))

  -- a card's load, camera by camera
  load_is : (n c : ℕ) → n ≤ length cameras → load cards n c ≡ sum S (λ q. visits (pattern_of chosen q) c (taken cameras n q))
  load_is n c h =
      sum_cong n (λ i. bit (eqb (card_of cards i) c)) (λ i. bit (eqb (card_for chosen cameras i) c)) (λ i l. rw (card_is i (omega arith)))
      ∙ sym (over_cards n S (camera_of cameras) (λ i. eqb (card_for chosen cameras i) c) (λ i l. seen i (omega arith)))
      ∙ sum_cong S (λ q. how_many n (λ i. eqb (camera_of cameras i) q && eqb (card_for chosen cameras i) c))
      (λ q. visits (pattern_of chosen q) c (taken cameras n q)) (λ q l. camera_load q c n)

  -- between places a and b of the list: one camera,
  camera_even : (q a b c d : ℕ) → q < S → a ≤ b → c < hub_size → d < hub_size
      → visits (pattern_of chosen q) d (taken cameras b q) + visits (pattern_of chosen q) c (taken cameras a q)
      ≤ visits (pattern_of chosen q) c (taken cameras b q) + visits (pattern_of chosen q) d (taken cameras a q) + 1
  camera_even q a b c d l h k g =
      let from : ℕ = taken cameras a q in
      let more : from ≤ taken cameras b q = sum_longer a b (λ i. bit (eqb (camera_of cameras i) q)) h in
      let w : ℕ = taken cameras b q - from in
      let up_to : taken cameras b q ≡ from + w = omega arith in
      rw up_to (omega (arith, window (pattern_of chosen q) (names q l) c k from w, window (pattern_of chosen q) (names q l) d g from w))

  -- and all of them
  part_even : (a b c d : ℕ) → a ≤ b → b ≤ length cameras → c < hub_size → d < hub_size
      → load cards b d + load cards a c ≤ load cards b c + load cards a d + S
  part_even a b c d h k g f =
      let at : ℕ → ℕ → ℕ → ℕ = λ n c q. visits (pattern_of chosen q) c (taken cameras n q) in
      omega (
        arith,
        load_is a c (omega arith),
        load_is a d (omega arith),
        load_is b c k,
        load_is b d k,
        sum_mono S (λ q. at b d q + at a c q) (λ q. at b c q + at a d q + 1) (λ q l. camera_even q a b c d l h g f),
        sum_add S (at b d) (at a c),
        sum_add S (λ q. at b c q + at a d q) (λ q. 1),
        sum_add S (at b c) (at a d),
        sum_one S,
      )

  -- the first parts of the list, and its last parts
  pub even_first : Even hub_size S cards
  even_first n c d h k g = omega (arith, part_even 0 n c d (omega arith) (omega (arith, size)) k g)

  pub even_last : Even hub_size S (reverse cards)
  even_last n c d h k g =
      let inside : n ≤ length cards = omega (arith, length-reverse cards) in
      omega (
        arith,
        load_reverse cards n c inside,
        load_reverse cards n d inside,
        part_even (length cards - n) (length cards) c d (omega arith) (omega (arith, size)) k g,
      )
