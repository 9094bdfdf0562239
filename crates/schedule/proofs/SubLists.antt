-- A list of frames with some left out never needs more cycles than the whole list (request 2026-04): the frames that are kept have, in the cycles
-- that they have in the whole, a correct schedule of their own. Reads follow by the reversed lists.
-- Assumes nothing.
use Prim.Native.Nat.{ℕ, zero, suc, ◌≤◌, ◌<◌, zero-le}
use mathlib.Core.Path.{◌≡◌, refl, sym, ◌∙◌}
use mathlib.Core.List.{List}
use native.Mathlib.Omega.{arith}
use native.Mathlib.Decide.{ℕ_discrete}
use lib.Dec.{leb}
use lib.ListN.{length}
use Rattle.counting.specs.Count.{bit, sum, tabulate}
use Rattle.counting.specs.Frames.{card_of}
use Rattle.counting.specs.Joined.{Sub, none, keep, skip}
use Rattle.schedule.specs.Schedule.{cycle_of, cycles_in, CorrectSave}
use Rattle.schedule.specs.Greedy.{greedy_writing, lazy_prefetching}
use Rattle.counting.proofs.Sums.{sum_longer}
use Rattle.counting.proofs.Lists.{le_largest}
use Rattle.counting.proofs.Joined.{sub_reverse}
use Rattle.schedule.proofs.Fewest.{greedy_correct, greedy_fewest, greedy_length, read_is_save}
use Rattle.schedule.proofs.Tabulated.{table_correct, table_within}

-- where frame i of the part stands in the whole
abbrev pub place : {part whole : List ℕ} → Sub part whole → ℕ → ℕ
place none i = i
place (keep s) zero = zero
place (keep s) (suc i) = suc (place s i)
place (skip s) i = suc (place s i)

place_inside : {part whole : List ℕ} (s : Sub part whole) (i : ℕ) → i < length part → place s i < length whole
place_inside none i h = h
place_inside (keep s) zero h = omega arith
place_inside (keep s) (suc i) h = omega (arith, place_inside s i (omega arith))
place_inside (skip s) i h = omega (arith, place_inside s i h)

place_card : {part whole : List ℕ} (s : Sub part whole) (i : ℕ) → i < length part → card_of part i ≡ card_of whole (place s i)
place_card none i h = refl
place_card (keep s) zero h = refl
place_card (keep s) (suc i) h = place_card s i (omega arith)
place_card (skip s) i h = place_card s i h

-- the frames keep their order
place_rises : {part whole : List ℕ} (s : Sub part whole) (i : ℕ) → place s i < place s (suc i)
place_rises none i = omega arith
place_rises (keep s) zero = omega arith
place_rises (keep s) (suc i) = omega (arith, place_rises s i)
place_rises (skip s) i = omega (arith, place_rises s i)

place_order : {part whole : List ℕ} (s : Sub part whole) (i j : ℕ) → i < j → place s i < place s j
place_order s i zero l = absurd (omega arith)
place_order s i (suc j) l =
    elim (ℕ_discrete i j) [
      | yes e ↦ rw e (place_rises s j)
      | no e ↦ omega (arith, place_order s i j (omega arith), place_rises s j)
    ]

-- a sum over the part's places is part of the sum over the whole
sum_places : {part whole : List ℕ} (s : Sub part whole) (f : ℕ → ℕ) (i : ℕ) → sum i (λ j. f (place s j)) ≤ sum (place s i) f
sum_places s f zero = zero-le
sum_places s f (suc i) = omega (arith, sum_places s f i, sum_longer (suc (place s i)) (place s (suc i)) f (place_rises s i))

-- the cycles that the part's frames have in a schedule of the whole
abbrev pub kept_cycles : {part whole : List ℕ} → Sub part whole → List ℕ → List ℕ
kept_cycles {part} s cycles = tabulate (length part) (λ i. cycle_of cycles (place s i))

pub sub_correct : (m : ℕ) {part whole : List ℕ} (s : Sub part whole) (cycles : List ℕ)
    → CorrectSave m whole cycles → CorrectSave m part (kept_cycles s cycles)
sub_correct m {part} {whole} s cycles ok =
    table_correct part (λ i. cycle_of cycles (place s i)) m
    (λ i l. ok.proper.from_one (place s i) (place_inside s i l))
    (λ i j l k c.
    let same : card_of whole (place s i) ≡ card_of whole (place s j) = sym (place_card s i (omega arith)) ∙ c ∙ place_card s j k in
    ok.proper.card_rule (place s i) (place s j) (place_order s i j l) (place_inside s j k) same)
    (λ i l.
    omega (
      arith,
      ok.pool_rule (place s i) (place_inside s i l),
      sum_places s (λ j. bit (leb (cycle_of cycles (place s i)) (cycle_of cycles j))) i,
    ))

pub sub_no_longer : {part whole : List ℕ} (s : Sub part whole) (cycles : List ℕ) → cycles_in (kept_cycles s cycles) ≤ cycles_in cycles
sub_no_longer {part} s cycles =
    table_within part (λ i. cycle_of cycles (place s i)) (cycles_in cycles) (λ i l. le_largest cycles (place s i))

module _ (m : ℕ) (pool : 1 ≤ m) where
  pub save_sub : {part whole : List ℕ} → Sub part whole → (greedy_writing m part).T ≤ (greedy_writing m whole).T
  save_sub {part} {whole} s =
      let cycles : List ℕ = (greedy_writing m whole).cycles in
      omega (
        arith,
        greedy_fewest m part pool (kept_cycles s cycles) (sub_correct m s cycles (greedy_correct m whole pool)),
        sub_no_longer s cycles,
        greedy_length m whole pool,
      )

  pub read_sub : {part whole : List ℕ} → Sub part whole → (lazy_prefetching m part).T ≤ (lazy_prefetching m whole).T
  read_sub {part} {whole} s = omega (arith, read_is_save m part, read_is_save m whole, save_sub (sub_reverse s))
