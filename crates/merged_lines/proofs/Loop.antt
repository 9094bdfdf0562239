-- The loop that merges lines: what holds when i lines of the first part and j of the second are written, and that a turn keeps it.
-- Assumes nothing.
use Prim.Native.Nat.{ℕ, ◌+◌, ◌*◌, ◌≤◌, ◌<◌}
use mathlib.Core.Path.{◌≡◌, sym, ap, ◌∙◌}
use mathlib.Core.List.{List}
use native.Mathlib.Omega.{arith}
use lib.ListN.{length, take, drop}
use lib.Seq.{sets}
use Rattle.counting.proofs.Parts.{sets_length}
use Rattle.text.specs.UpperCase.{upper_case}
use Rattle.header.specs.Editions.{edition2}
use Rattle.frame_lines.specs.Lines.{second_at}
use Rattle.merged_lines.specs.Merge.{Frame, second_in, merge}
use Rattle.merged_lines.specs.Packed.{packed}
use Rattle.merged_lines.specs.Lines.{HasLines, frames_in, key_at, merged_text}
use Rattle.merged_lines.proofs.Merging.{merge_length}
use Rattle.merged_lines.proofs.Turns.{Left, all_left, take_first, take_second}
use Rattle.merged_lines.proofs.Framed.{lines, no_lines, one_line, framed_length, framed_at, second_framed}
use Rattle.merged_lines.proofs.Keys.{key_here, first_turn, second_turn}

-- i lines of a and j of b are written, x and y are the keys of the next ones
pub record Merging (a b : List ℕ) (n m : ℕ) (before : List ℕ) (at : ℕ) (out : List ℕ) (x y i j : ℕ) : Type 0 where
  pub first_within : i ≤ n
  pub second_within : j ≤ m
  pub first_next : x ≡ key_at a (11 * n) (11 * i)
  pub second_next : y ≡ key_at b (11 * m) (11 * j)
  pub left : Left (frames_in a n) (frames_in b m) i j
  pub written : out ≡ sets before at (lines (merge (frames_in a n) (frames_in b m)) (i + j))

module _ (a b : List ℕ) (n m : ℕ) (its_lines : HasLines a n) (others : HasLines b m) (before : List ℕ) (at : ℕ) where
  abbrev all : List Frame
  all = merge (frames_in a n) (frames_in b m)

  all_length : length all ≡ n + m
  all_length = omega (arith, merge_length (frames_in a n) (frames_in b m), framed_length a n, framed_length b m)

  pub begun : (x y : ℕ) → x ≡ key_at a (11 * n) 0 → y ≡ key_at b (11 * m) 0 → Merging a b n m before at before x y 0 0
  begun x y e f =
      let zero : 11 * 0 ≡ 0 = omega arith in
      record {
        first_within = omega arith;
        second_within = omega arith;
        first_next = rw zero e;
        second_next = rw zero f;
        left = all_left (frames_in a n) (frames_in b m);
        written = no_lines all before at;
      }

  module _ (out : List ℕ) (x y i j : ℕ) (inv : Merging a b n m before at out x y i j) where
    pub as_long : length out ≡ length before
    as_long = sets_length before out at (lines all (i + j)) inv.written

    pub ended : n + m ≤ i + j → out ≡ sets before at (merged_text a n b m)
    ended h =
        let done : i + j ≡ length all = omega (arith, inv.first_within, inv.second_within, all_length) in
        inv.written ∙ ap (λ (k : ℕ). sets before at (lines all k)) done

    module _ (on : i + j < n + m) where
      -- the key of the line of a is not the larger
      module _ (le : x ≤ y) where
        turn_first : (i < n) × (j < m → second_at edition2 a i ≤ second_at edition2 b j)
        turn_first =
            first_turn a b n m its_lines others i j inv.first_within inv.second_within on (omega (arith, le, inv.first_next, inv.second_next))

        pub in_first : i < n
        in_first = turn_first.0

        pub first_key : x ≡ packed (upper_case a) (11 * i + 2) 8
        first_key = inv.first_next ∙ sym (key_here a (11 * n) (11 * i) (omega (arith, in_first)))

        pub on_first :
            (next : List ℕ) (x' : ℕ) → next ≡ sets out (at + 11 * (i + j)) (take 11 (drop (11 * i) (upper_case a)))
            → x' ≡ key_at a (11 * n) (11 * (i + 1)) → Merging a b n m before at next x' y (i + 1) j
        on_first next x' put e =
            let order : j < length (frames_in b m) → second_in (frames_in a n) i ≤ second_in (frames_in b m) j =
            λ l.
            let k : j < m = omega (arith, l, framed_length b m) in
            omega (arith, second_framed a n i in_first, second_framed b m j k, turn_first.1 k) in
            let took = take_first (frames_in a n) (frames_in b m) i j inv.left (omega (arith, in_first, framed_length a n)) order in
            let k : i + j + 1 ≡ i + 1 + j = omega arith in
            record {
              first_within = omega (arith, in_first);
              second_within = inv.second_within;
              first_next = e;
              second_next = inv.second_next;
              left = took.1;
              written =
                  rw k at
                  (one_line all before out next a at (i + j) i inv.written put (its_lines i in_first) (took.0 ∙ framed_at a n i in_first));
            }

      -- the key of the line of b is the smaller
      module _ (lt : y < x) where
        turn_second : (j < m) × (i < n → second_at edition2 b j < second_at edition2 a i)
        turn_second =
            second_turn a b n m its_lines others i j inv.first_within inv.second_within on
            (omega (arith, lt, inv.first_next, inv.second_next))

        pub in_second : j < m
        in_second = turn_second.0

        pub second_key : y ≡ packed (upper_case b) (11 * j + 2) 8
        second_key = inv.second_next ∙ sym (key_here b (11 * m) (11 * j) (omega (arith, in_second)))

        pub on_second :
            (next : List ℕ) (y' : ℕ) → next ≡ sets out (at + 11 * (i + j)) (take 11 (drop (11 * j) (upper_case b)))
            → y' ≡ key_at b (11 * m) (11 * (j + 1)) → Merging a b n m before at next x y' i (j + 1)
        on_second next y' put e =
            let order : i < length (frames_in a n) → second_in (frames_in b m) j < second_in (frames_in a n) i =
            λ l.
            let k : i < n = omega (arith, l, framed_length a n) in
            omega (arith, second_framed a n i k, second_framed b m j in_second, turn_second.1 k) in
            let took = take_second (frames_in a n) (frames_in b m) i j inv.left (omega (arith, in_second, framed_length b m)) order in
            let k : i + j + 1 ≡ i + (j + 1) = omega arith in
            record {
              first_within = inv.first_within;
              second_within = omega (arith, in_second);
              first_next = inv.first_next;
              second_next = e;
              left = took.1;
              written =
                  rw k at
                  (one_line all before out next b at (i + j) j inv.written put (others j in_second) (took.0 ∙ framed_at b m j in_second));
            }
