-- The pools of a save, turn by turn.
-- Assumes nothing.
use Prim.Native.Nat.{ℕ, suc, ◌+◌, ◌-◌, ◌≤◌, ◌<◌}
use mathlib.Core.Path.{◌≡◌, refl, ap, ◌∙◌}
use mathlib.Core.Bool.{true, false}
use mathlib.Core.List.{List}
use native.Mathlib.Omega.{arith}
use native.Mathlib.Numerals.{add-one}
use native.Mathlib.Decide.{dec_lt, ℕ_discrete}
use lib.Dec.{eqb, leb}
use lib.ListN.{length, get_or, set, length-set}
use lib.Seq.{get_or-set_same, get_or-set_other}
use borrow.Author.Tests.{eq-eqb, ne_eqb, lt-leb, le-leb, leb-true}
use Rattle.counting.specs.Count.{bit, how_many}
use Rattle.counting.proofs.Bits.{bit_mono}
use Rattle.counting.proofs.Sums.{sum_cong, sum_add, sum_mono, sum_longer, how_many_le, some_passes}
use Rattle.schedule.specs.Schedule.{cycle_of}
use Rattle.header.specs.Limits.{max_frames}
use Rattle.pool_counts.specs.Pools.{roomy_of}
use Rattle.pool_counts.proofs.Frames.{Roomy, roomy_first, roomy_next, roomy_ends, roomy_all}
use Rattle.pool_table.specs.Table.{table_length, Zeroed, Low}

-- of the first i frames, those in cycle c, and those in it or after it
abbrev due_in : List ℕ → ℕ → ℕ → ℕ
due_in cycles i c = how_many i (λ j. eqb c (cycle_of cycles j))

abbrev due_from : List ℕ → ℕ → ℕ → ℕ
due_from cycles i c = how_many i (λ j. leb c (cycle_of cycles j))

in_or_after : (c x : ℕ) → bit (leb c x) ≡ bit (eqb c x) + bit (leb (suc c) x)
in_or_after c x =
    elim (ℕ_discrete c x) [
      | yes e ↦ rw (le-leb c x (omega arith), eq-eqb c x e, lt-leb (suc c) x (omega arith))
      | no e ↦
          elim (dec_lt c x) [
            | yes h ↦ rw (le-leb c x (omega arith), ne_eqb c x e, le-leb (suc c) x (omega arith))
            | no h ↦ rw (lt-leb c x (omega arith), ne_eqb c x e, lt-leb (suc c) x (omega arith))
          ]
    ]

module _ (cycles : List ℕ) (i : ℕ) where
  from_splits : (c : ℕ) → due_from cycles i c ≡ due_in cycles i c + due_from cycles i (suc c)
  from_splits c =
      sum_cong i (λ j. bit (leb c (cycle_of cycles j))) (λ j. bit (eqb c (cycle_of cycles j)) + bit (leb (suc c) (cycle_of cycles j)))
      (λ j l. in_or_after c (cycle_of cycles j))
      ∙ sum_add i (λ j. bit (eqb c (cycle_of cycles j))) (λ j. bit (leb (suc c) (cycle_of cycles j)))

  from_lower : (c d : ℕ) → c ≤ d → due_from cycles i d ≤ due_from cycles i c
  from_lower c d l =
      sum_mono i (λ j. bit (leb d (cycle_of cycles j))) (λ j. bit (leb c (cycle_of cycles j)))
      (λ j h.
      bit_mono (leb d (cycle_of cycles j)) (leb c (cycle_of cycles j))
      (λ e. let g : d ≤ cycle_of cycles j = leb-true d (cycle_of cycles j) e in le-leb c (cycle_of cycles j) (omega arith)))

-- after i frames, all with room
pub record SaveTurn (m : ℕ) (cycles due : List ℕ) (i full above : ℕ) : Type 0 where
  pub roomy : Roomy true m cycles i
  pub long : length due ≡ table_length
  pub due_is : (c : ℕ) → c ≤ max_frames → get_or due c 0 ≡ due_in cycles i c
  pub above_is : above ≡ due_from cycles i full
  pub above_le : above ≤ m
  pub full_low : full ≤ suc max_frames
  pub reached : (c : ℕ) → c < full → m ≤ due_from cycles i c

pub save_first : (m : ℕ) (cycles due : List ℕ) → Zeroed due → SaveTurn m cycles due 0 0 0
save_first m cycles due z =
    record {
      roomy = roomy_first true m cycles;
      long = z.long;
      due_is = λ c l. z.zeros c;
      above_is = refl;
      above_le = omega arith;
      full_low = omega arith;
      reached = λ c l. absurd (omega arith);
    }

module _ {m : ℕ} {cycles due : List ℕ} {i full above : ℕ} (v : SaveTurn m cycles due i full above) (low : Low cycles max_frames) where
  -- m frames are after the full cycles: one cycle more is full
  module _ (pool : 1 ≤ m) (h : m ≤ above) where
    pub full_below : full ≤ max_frames
    full_below =
        let r = some_passes i (λ j. leb full (cycle_of cycles j)) (omega (arith, pool, v.above_is)) in
        let later : full ≤ cycle_of cycles r.0 = leb-true full (cycle_of cycles r.0) r.2 in
        omega (arith, later, low.up_to_top r.0 (omega (arith, r.1, v.roomy.inside)))

    pub due_le : get_or due full 0 ≤ above
    due_le = omega (arith, v.due_is full full_below, v.above_is, from_splits cycles i full)

    pub save_moves : {b : ℕ} → b ≡ get_or due full 0 → SaveTurn m cycles due i (full + 1) (above - b)
    save_moves b-is =
        record {
          roomy = v.roomy;
          long = v.long;
          due_is = v.due_is;
          above_is = omega (arith, v.due_is full full_below, v.above_is, from_splits cycles i full, ap (due_from cycles i) (add-one full));
          above_le = omega (arith, v.above_le);
          full_low = omega (arith, full_below);
          reached = λ c l.
              elim (ℕ_discrete c full) [ yes e ↦ rw e (omega (arith, v.above_is)) | no e ↦ v.reached c (omega arith) ];
        }

  -- fewer are: the next frame
  module _ (h : above < m) (l : i < length cycles) {c : ℕ} (c-is : c ≡ cycle_of cycles i) where
    pub cycle_low : c ≤ max_frames
    cycle_low = omega (arith, low.up_to_top i l)

    pub save_ends : c < full → i ≡ roomy_of true m cycles
    save_ends g = roomy_ends v.roomy l (v.reached (cycle_of cycles i) (omega arith))

    pub due_small : get_or due c 0 < max_frames
    due_small = omega (arith, v.due_is c cycle_low, how_many_le i (λ j. eqb c (cycle_of cycles j)), v.roomy.inside, low.few)

    pub cycle_place : c < length due
    cycle_place = omega (arith, v.long, cycle_low)

    entry_next : (x : ℕ) → x ≤ max_frames → get_or (set due c (get_or due c 0 + 1)) x 0 ≡ due_in cycles (suc i) x
    entry_next x k =
        elim (ℕ_discrete x c) [
          | yes e ↦
              (let one : eqb c (cycle_of cycles i) ≡ true = eq-eqb c (cycle_of cycles i) c-is in
              rw e (get_or-set_same due c (get_or due c 0 + 1) 0 cycle_place ∙ omega (arith, v.due_is c cycle_low, ap bit one)))
          | no e ↦
              (let none : eqb x (cycle_of cycles i) ≡ false = ne_eqb x (cycle_of cycles i) (λ q. e (omega arith)) in
              get_or-set_other due c x (get_or due c 0 + 1) 0 e ∙ omega (arith, v.due_is x k, ap bit none))
        ]

    pub save_next : full ≤ c → SaveTurn m cycles (set due c (get_or due c 0 + 1)) (i + 1) full (above + 1)
    save_next g =
        let after : leb full (cycle_of cycles i) ≡ true = le-leb full (cycle_of cycles i) (omega arith) in
        record {
          roomy = roomy_next v.roomy l (omega (arith, v.above_is, from_lower cycles i full (cycle_of cycles i) (omega arith)));
          long = length-set due c (get_or due c 0 + 1) ∙ v.long;
          due_is = λ x k. rw (add-one i) (entry_next x k);
          above_is = rw (add-one i) (omega (arith, v.above_is, ap bit after));
          above_le = omega arith;
          full_low = v.full_low;
          reached = λ x k. omega (arith, v.reached x k, sum_longer i (i + 1) (λ j. bit (leb x (cycle_of cycles j))) (omega arith));
        }

  pub save_all : length cycles ≤ i → length cycles ≡ roomy_of true m cycles
  save_all = roomy_all v.roomy
