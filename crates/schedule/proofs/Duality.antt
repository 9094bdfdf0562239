-- The duality principle (the paper, Theorem 1): a schedule turned round is correct for the reversed list, save for read and read for save.
-- Assumes nothing.
use Prim.Native.Nat.{ℕ, suc, ◌+◌, ◌-◌, ◌≤◌, ◌<◌, min}
use mathlib.Core.Path.{◌≡◌, sym, ap, ◌∙◌}
use mathlib.Core.Bool.{◌&&◌}
use mathlib.Core.List.{List, map, reverse}
use native.Mathlib.Omega.{arith}
use lib.Dec.{leb, ltb}
use lib.ListN.{length, get_or, length-reverse, length-map}
use borrow.Author.Tests.{leb-true, le-leb, lt-ltb, le-ltb}
use Rattle.counting.specs.Count.{bit}
use Rattle.schedule.specs.Schedule.{cycle_of, cycles_in, o_backlog, i_backlog, Correct, CorrectSave, CorrectRead}
use Rattle.schedule.specs.Greedy.{turn_round}
use Rattle.counting.proofs.Bits.{and_right, bit_mono}
use Rattle.counting.proofs.Sums.{sum_reverse, sum_cut, sum_mono, sum_longer}
use Rattle.counting.proofs.Lists.{le_largest, largest_le, reverse_get_or, map_get_or}

pub length_turn_round : (T : ℕ) (cycles : List ℕ) → length (turn_round T cycles) ≡ length cycles
length_turn_round T cycles = length-reverse (map (λ c. T - c + 1) cycles) ∙ length-map cycles (λ c. T - c + 1)

-- the cycle of a frame of the schedule turned round
pub turn_round_at : (T : ℕ) (cycles : List ℕ) (i : ℕ) → i < length cycles
    → cycle_of (turn_round T cycles) i ≡ T - cycle_of cycles (length cycles - suc i) + 1
turn_round_at T cycles i l =
    let n : length (map (λ c. T - c + 1) cycles) ≡ length cycles = length-map cycles (λ c. T - c + 1) in
    reverse_get_or (map (λ c. T - c + 1) cycles) i (omega arith)
    ∙ ap (λ k. get_or (map (λ c. T - c + 1) cycles) (k - suc i) 0) n
    ∙ map_get_or (λ c. T - c + 1) cycles (length cycles - suc i) (omega arith)

module _ (cards cycles : List ℕ) (one_each : length cycles ≡ length cards) where
  abbrev L : ℕ
  L = length cards

  abbrev T : ℕ
  T = cycles_in cycles

  abbrev cyc : ℕ → ℕ
  cyc = cycle_of cycles

  abbrev turned : ℕ → ℕ
  turned = cycle_of (turn_round T cycles)

  turned_is : (i : ℕ) → i < L → turned i ≡ T - cyc (L - suc i) + 1
  turned_is i l = rw one_each at (turn_round_at T cycles i (omega arith))

  -- turned round, later and earlier change places
  turned_le : (i j : ℕ) → i < L → j < L → turned i ≤ turned j → cyc (L - suc j) ≤ cyc (L - suc i)
  turned_le i j k l h = omega (arith, turned_is i k, turned_is j l, le_largest cycles (L - suc j))

  -- the later frames of the one are the earlier frames of the other
  i_backlog_turned : (i : ℕ) → i < L → i_backlog (turn_round T cycles) i ≤ o_backlog cycles (L - suc i)
  i_backlog_turned i l =
      let e : length (turn_round T cycles) ≡ L = length_turn_round T cycles ∙ one_each in
      let z : min L (L - suc i) ≡ L - suc i = omega arith in
      rw e
      (omega (
        arith,
        sum_reverse L (λ j. bit (ltb i j && leb (turned j) (turned i))),
        rw z at
            (sum_cut L (L - suc i) (λ j. bit (ltb i (L - suc j) && leb (turned (L - suc j)) (turned i))) (λ j. bit (leb (cyc (L - suc i)) (cyc j)))
            (λ j k g. bit_mono (ltb i (L - suc j) && leb (turned (L - suc j)) (turned i)) (leb (cyc (L - suc i)) (cyc j))
            (λ x.
            let back : L - suc (L - suc j) ≡ j = omega arith in
            let le : cyc (L - suc i) ≤ cyc (L - suc (L - suc j)) =
            turned_le (L - suc j) i (omega arith) l
            (leb-true (turned (L - suc j)) (turned i) (and_right (ltb i (L - suc j)) (leb (turned (L - suc j)) (turned i)) x)) in
            le-leb (cyc (L - suc i)) (cyc j) (rw back at le)))
            (λ j k g. let h : L - suc j ≤ i = omega arith in rw (le-ltb i (L - suc j) h))),
      ))

  o_backlog_turned : (i : ℕ) → i < L → o_backlog (turn_round T cycles) i ≤ i_backlog cycles (L - suc i)
  o_backlog_turned i l =
      rw one_each
      (omega (
        arith,
        sum_reverse L (λ j. bit (ltb (L - suc i) j && leb (cyc j) (cyc (L - suc i)))),
        sum_mono i (λ j. bit (leb (turned i) (turned j))) (λ j. bit (ltb (L - suc i) (L - suc j) && leb (cyc (L - suc j)) (cyc (L - suc i))))
            (λ j k. bit_mono (leb (turned i) (turned j)) (ltb (L - suc i) (L - suc j) && leb (cyc (L - suc j)) (cyc (L - suc i)))
            (λ x.
            let g : L - suc i < L - suc j = omega arith in
            rw (
              lt-ltb (L - suc i) (L - suc j) g,
              le-leb (cyc (L - suc j)) (cyc (L - suc i)) (turned_le i j l (omega arith) (leb-true (turned i) (turned j) x)),
            ))),
        sum_longer i L (λ j. bit (ltb (L - suc i) (L - suc j) && leb (cyc (L - suc j)) (cyc (L - suc i)))) (omega arith),
      ))

module _ (m : ℕ) (backlog back : List ℕ → ℕ → ℕ) (cards cycles : List ℕ) (ok : Correct backlog m cards cycles) where
  abbrev N : ℕ
  N = length cards

  turned_cycle : (i : ℕ) → i < N → cycle_of (turn_round (cycles_in cycles) cycles) i ≡ cycles_in cycles - cycle_of cycles (N - suc i) + 1
  turned_cycle = turned_is cards cycles ok.proper.one_each

  turned_correct : ((i : ℕ) → i < N → back (turn_round (cycles_in cycles) cycles) i ≤ backlog cycles (N - suc i))
      → Correct back m (reverse cards) (turn_round (cycles_in cycles) cycles)
  turned_correct pool =
      record {
        proper = record {
          one_each = length_turn_round (cycles_in cycles) cycles ∙ ok.proper.one_each ∙ sym (length-reverse cards);
          from_one = λ i l. omega (arith, turned_cycle i (omega (arith, length-reverse cards)));
          card_rule = λ i j l k c e.
              let inside : j < N = omega (arith, length-reverse cards) in
              ok.proper.card_rule (N - suc j) (N - suc i) (omega arith) (omega arith)
              (omega (arith, reverse_get_or cards i (omega arith), reverse_get_or cards j inside))
              (omega (arith, turned_cycle i (omega arith), turned_cycle j inside, le_largest cycles (N - suc i), le_largest cycles (N - suc j)));
        };
        pool_rule = λ i l.
            let inside : i < N = omega (arith, length-reverse cards) in
            omega (arith, pool i inside, ok.pool_rule (N - suc i) (omega arith));
      }

  -- it is no longer: its cycles lie between 1 and T
  pub turned_no_longer : cycles_in (turn_round (cycles_in cycles) cycles) ≤ cycles_in cycles
  turned_no_longer =
      largest_le (turn_round (cycles_in cycles) cycles) (cycles_in cycles)
      (λ i l.
      let inside : i < N = omega (arith, length_turn_round (cycles_in cycles) cycles, ok.proper.one_each) in
      omega (arith, turned_cycle i inside, ok.proper.from_one (N - suc i) (omega arith), le_largest cycles (N - suc i)))

module _ (m : ℕ) (cards cycles : List ℕ) where
  pub save_to_read : CorrectSave m cards cycles → CorrectRead m (reverse cards) (turn_round (cycles_in cycles) cycles)
  save_to_read ok = turned_correct m o_backlog i_backlog cards cycles ok (i_backlog_turned cards cycles ok.proper.one_each)

  pub read_to_save : CorrectRead m cards cycles → CorrectSave m (reverse cards) (turn_round (cycles_in cycles) cycles)
  read_to_save ok = turned_correct m i_backlog o_backlog cards cycles ok (o_backlog_turned cards cycles ok.proper.one_each)
