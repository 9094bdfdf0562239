-- Counting up to m: the parts that are looked at together, and one cycle after the other.
-- Assumes nothing.
use Prim.Native.Nat.{ℕ, suc, ◌+◌, ◌-◌, ◌≤◌, ◌<◌, min}
use mathlib.Core.Path.{◌≡◌, refl, sym, ap, ◌∙◌}
use mathlib.Core.Bool.{Bool, true, false, ◌&&◌}
use mathlib.Core.List.{List, [], ◌∷◌, ◌++◌}
use native.Mathlib.Omega.{arith}
use native.Mathlib.Numerals.{add-one}
use native.Mathlib.Decide.{dec_lt, ℕ_discrete}
use lib.Dec.{leb, ltb}
use lib.ListN.{length, get_or, take, drop, length-drop, length-take, length-append, get_or-append}
use lib.Seq.{get_or-take, get_or-drop, drop-append_seam, drop-drop}
use borrow.Author.Tests.{lt-ltb, le-ltb, le-leb, lt-leb}
use Rattle.counting.specs.Count.{bit, how_many, least}
use Rattle.std.specs.List.{sum_by}
use Rattle.std.proofs.lemmas.List.Sums.{sum_by-cons}
use Rattle.counting.proofs.Sums.{sum_cong, sum_zero, sum_longer, sum_split, sum_front, how_many_le}
use Rattle.counting.proofs.Bits.{bit_le_one}
use Rattle.counting.proofs.Least.{least_found, least_none}
use Rattle.schedule.specs.Schedule.{cycle_of}
use Rattle.pool_counts.specs.Backlog.{backlog_of, compared, counts, count_first, count_among}
use Rattle.pool_counts.specs.Looking.{Looking}

-- the sum of a 1 for each cycle that counts
pub counted_list : (save : Bool) (own : ℕ) (l : List ℕ) → sum_by (λ c. bit (counts save own c)) l ≡ count_first save own l (length l)
counted_list save own [] = refl
counted_list save own (c ∷ l) =
    sum_by-cons (λ x. bit (counts save own x)) c l
    ∙ ap (λ n. bit (counts save own c) + n) (counted_list save own l)
    ∙ sym (sum_front (length l) (λ j. bit (counts save own (cycle_of (c ∷ l) j))))

-- what is left behind a part
pub rest_left : (others : List ℕ) (k : ℕ) (part rest : List ℕ) → drop k others ≡ part ++ rest → rest ≡ drop (k + length part) others
rest_left others k part rest e = sym (sym (drop-drop (length part) k others) ∙ ap (drop (length part)) e ∙ drop-append_seam part rest)

module _ (save : Bool) (own : ℕ) (others : List ℕ) where
  abbrev test : ℕ → Bool
  test j = counts save own (cycle_of others j)

  pub first_le : (k : ℕ) → count_first save own others k ≤ k
  first_le k = how_many_le k test

  -- a part: the cycles from k on, before a rest
  part_counts : (k : ℕ) (part rest : List ℕ) → drop k others ≡ part ++ rest
      → count_first save own others (k + length part) ≡ count_first save own others k + count_first save own part (length part)
  part_counts k part rest e =
      sum_split k (length part) (λ j. bit (test j))
      ∙ ap (λ n. count_first save own others k + n)
      (sum_cong (length part) (λ j. bit (test (k + j))) (λ j. bit (counts save own (cycle_of part j)))
      (λ j l. ap (λ c. bit (counts save own c)) (sym (get_or-drop k others j 0) ∙ ap (λ s. get_or s j 0) e ∙ get_or-append part rest 0 j l)))

  part_inside : (k : ℕ) (part rest : List ℕ) → k ≤ length others → drop k others ≡ part ++ rest → k + length part ≤ length others
  part_inside k part rest l e = omega (arith, length-drop k others, ap length e, length-append part rest)

  module _ (m : ℕ) where
    pub looking_first : Looking save own others m 0 0
    looking_first = record { inside = omega arith; so_far = refl; short = λ j l. absurd (omega arith) }

    module _ {k count : ℕ} (v : Looking save own others m k count) where
      -- the next part, in which m are not found
      module _ (part rest : List ℕ) (e : drop k others ≡ part ++ rest) {more : ℕ} (more-is : more ≡ count_first save own part (length part)) where
        pub part_few : count + more ≤ length others
        part_few =
            omega (arith, v.so_far, part_counts k part rest e, more-is, first_le (k + length part), part_inside k part rest v.inside e)

        pub looking_part : count + more < m → Looking save own others m (k + length part) (count + more)
        looking_part short =
            record {
              inside = part_inside k part rest v.inside e;
              so_far = omega (arith, v.so_far, part_counts k part rest e, more-is);
              short = λ j g.
                  omega (arith, v.so_far, part_counts k part rest e, more-is, sum_longer j (k + length part) (λ i. bit (test i)) (omega arith));
            }

      -- the next cycle, while m are not found
      pub looking_next :
          count < m → k < length others → (b : ℕ) → b ≡ bit (test k) → Looking save own others m (k + 1) (count + b)
      looking_next short l b b-is =
          record {
            inside = omega arith;
            so_far = rw (add-one k) (omega (arith, v.so_far, b-is));
            short = λ j g.
                elim (dec_lt j k) [
                  | yes h ↦ v.short j h
                  | no h ↦ (let e : j ≡ k = omega arith in rw e (omega (arith, v.so_far)))
                ];
          }

      not_yet : (j : ℕ) → j < k → leb m (count_first save own others j) ≡ false
      not_yet j l = lt-leb m (count_first save own others j) (v.short j l)

      -- no more than one cycle can make it m, so that no more than m are found
      not_over : count ≤ m
      not_over =
          elim (ℕ_discrete k 0) [
            | yes e ↦ omega (arith, v.so_far, first_le k)
            | no e ↦
                (let last : suc (k - 1) ≡ k = omega arith in
                omega (arith, v.so_far, ap (λ n. how_many n test) last, v.short (k - 1) (omega arith), bit_le_one (test (k - 1))))
          ]

      -- m are found, or all cycles are looked at
      pub found_m : m ≤ count
          → (count ≡ min (count_first save own others (length others)) m) × (k ≡ least (length others) (λ j. leb m (count_first save own others j)))
      found_m l = (
        omega (arith, not_over, v.so_far, sum_longer k (length others) (λ j. bit (test j)) v.inside),
        elim (dec_lt k (length others)) [
          | yes h ↦
              sym (least_found (length others) k (λ j. leb m (count_first save own others j)) h
              (le-leb m (count_first save own others k) (omega (arith, v.so_far))) not_yet)
          | no h ↦
              (let e : k ≡ length others = omega (arith, v.inside) in
              e ∙ sym (least_none (length others) (λ j. leb m (count_first save own others j)) (λ j g. not_yet j (omega arith))))
        ],
      )

      pub looked_all : length others ≤ k
          → (count ≡ min (count_first save own others (length others)) m)
          × (length others ≡ least (length others) (λ j. leb m (count_first save own others j)))
      looked_all l =
          let e : k ≡ length others = omega (arith, v.inside) in (
            omega (arith, not_over, v.so_far, ap (λ n. how_many n test) e),
            sym (least_none (length others) (λ j. leb m (count_first save own others j)) (λ j g. not_yet j (omega arith))),
          )

-- a frame's later frames, in the whole list and as the part after it
pub later_part :
    (cycles : List ℕ) (i c : ℕ) → i < length cycles
    → how_many (length cycles) (λ j. ltb i j && leb (cycle_of cycles j) c)
    ≡ count_first false c (drop (suc i) cycles) (length (drop (suc i) cycles))
later_part cycles i c l =
    let rest : ℕ = length cycles - suc i in
    let whole : length cycles ≡ suc i + rest = omega arith in
    let front =
    sum_cong (suc i) (λ j. bit (ltb i j && leb (cycle_of cycles j) c)) (λ j. 0) (λ j h. rw (le-ltb i j (omega arith))) ∙ sum_zero (suc i) in
    let part =
    sum_cong rest (λ j. bit (ltb i (suc i + j) && leb (cycle_of cycles (suc i + j)) c)) (λ j. bit (leb (cycle_of (drop (suc i) cycles) j) c))
    (λ j h. rw (lt-ltb i (suc i + j) (omega arith), get_or-drop (suc i) cycles j 0)) in
    ap (λ n. how_many n (λ j. ltb i j && leb (cycle_of cycles j) c)) whole
    ∙ sum_split (suc i) rest (λ j. bit (ltb i j && leb (cycle_of cycles j) c))
    ∙ omega (arith, front, part, ap (λ n. count_first false c (drop (suc i) cycles) n) (length-drop (suc i) cycles))

-- all of the rule's frames are looked at: the full count
pub count_whole :
    (save : Bool) (cycles : List ℕ) (i : ℕ) → i < length cycles
    → count_among save cycles i (length (compared save cycles i)) ≡ backlog_of save cycles i
count_whole true cycles i l =
    let n : length (take i cycles) ≡ i = omega (arith, length-take i cycles) in
    ap (λ k. count_first true (cycle_of cycles i) (take i cycles) k) n
    ∙ sum_cong i (λ j. bit (leb (cycle_of cycles i) (cycle_of (take i cycles) j))) (λ j. bit (leb (cycle_of cycles i) (cycle_of cycles j)))
    (λ j h. ap (λ c. bit (leb (cycle_of cycles i) c)) (get_or-take i cycles j 0 h))
count_whole false cycles i l = sym (later_part cycles i (cycle_of cycles i) l)
