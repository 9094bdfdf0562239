-- The loop by the code's variables: each side stands at one of its lines, and a turn writes the line of one of them.
-- Assumes nothing.
use Prim.Native.Nat.{ℕ, ◌+◌, ◌*◌, ◌≤◌, ◌<◌}
use mathlib.Core.Path.{◌≡◌, ◌∙◌}
use mathlib.Core.List.{List}
use native.Mathlib.Omega.{arith}
use lib.ListN.{length, take, drop}
use lib.Seq.{sets}
use Rattle.text.specs.Text.{Line}
use Rattle.text.specs.UpperCase.{upper_case}
use Rattle.header.specs.Limits.{max_frames}
use Rattle.merged_lines.specs.declared.Side.{Side}
use Rattle.merged_lines.specs.Packed.{packed}
use Rattle.merged_lines.specs.Lines.{HasLines, Next, key_at, merged_text}
use Rattle.merged_lines.proofs.Keys.{its_line}
use Rattle.merged_lines.proofs.Loop.{Merging, begun, as_long, ended, in_first, first_key, on_first}
use Rattle.merged_lines.proofs.Loop.{in_second, second_key, on_second}

-- a side that stands at line i of its n lines
pub record Stands (s : List ℕ) (n i : ℕ) (side : Side) : Type 0 where
  pub lines : (side.lines.now ≡ s) × (side.end ≡ 11 * n)
  pub from : side.from ≡ 11 * i

-- the counts of lines that are written, and what holds of them
pub record Turn (a b : List ℕ) (n m : ℕ) (before : List ℕ) (at : ℕ) (out : List ℕ) (first second : Side) (line : ℕ) : Type 0 where
  pub i : ℕ
  pub j : ℕ
  pub taken : line ≡ i + j
  pub first_stands : Stands a n i first
  pub second_stands : Stands b m j second
  pub merging : Merging a b n m before at out first.key second.key i j

-- the first line of a part, where it has one
pub of_all : (s : List ℕ) (n : ℕ) → HasLines s n → 0 < n → Line s 0 10
of_all s n its_lines h = let z : 11 * 0 ≡ 0 = omega arith in rw z at (its_line s n 0 its_lines h)

-- What is next on a side, and where the side stands after that.
module _ (s : List ℕ) (n : ℕ) (its_lines : HasLines s n) (i : ℕ) (side : Side) (stands : Stands s n i side) where
  pub is_next : i < n → n ≤ max_frames → side.key ≡ packed (upper_case s) (11 * i + 2) 8 → Next side.lines.now side.end side.from side.key
  is_next l few e =
      rw (stands.lines.0, stands.lines.1, stands.from)
      record {
        line = its_line s n i its_lines l;
        its_key = e;
        inside = omega (arith, l);
        few = omega (arith, few);
        next = λ h. let k : 11 * i + 11 ≡ 11 * (i + 1) = omega arith in rw k (its_line s n (i + 1) its_lines (omega arith));
      }

  pub goes_on : (side' : Side) → (side'.lines.now ≡ side.lines.now) × (side'.end ≡ side.end) → side'.from ≡ side.from + 11 → Stands s n (i + 1) side'
  goes_on side' e f = record { lines = (e.0 ∙ stands.lines.0, e.1 ∙ stands.lines.1); from = omega (arith, f, stands.from) }

  pub key_after : (key : ℕ) → key ≡ key_at side.lines.now side.end (side.from + 11) → key ≡ key_at s (11 * n) (11 * (i + 1))
  key_after key e = let k : 11 * i + 11 ≡ 11 * (i + 1) = omega arith in rw (stands.lines.0, stands.lines.1, stands.from, k) at e

module _ (a b : List ℕ) (n m : ℕ) (its_lines : HasLines a n) (others : HasLines b m) (before : List ℕ) (at : ℕ) where
  pub starts :
      (first second : Side)
      → (first.lines.now ≡ a) × (first.end ≡ 11 * n) → first.from ≡ 0 → first.key ≡ key_at a (11 * n) 0
      → (second.lines.now ≡ b) × (second.end ≡ 11 * m) → second.from ≡ 0 → second.key ≡ key_at b (11 * m) 0
      → Turn a b n m before at before first second 0
  starts first second lines from key lines' from' key' =
      record {
        i = 0;
        j = 0;
        taken = omega arith;
        first_stands = record { lines = lines; from = omega (arith, from) };
        second_stands = record { lines = lines'; from = omega (arith, from') };
        merging = begun a b n m its_lines others before at first.key second.key key key';
      }

  module _ (out : List ℕ) (first second : Side) (line : ℕ) (turn : Turn a b n m before at out first second line) where
    abbrev i : ℕ
    i = turn.i

    abbrev j : ℕ
    j = turn.j

    abbrev x : ℕ
    x = first.key

    abbrev y : ℕ
    y = second.key

    inv : Merging a b n m before at out x y i j
    inv = turn.merging

    pub same_long : length out ≡ length before
    same_long = as_long a b n m its_lines others before at out x y i j inv

    pub stops : n + m ≤ line → out ≡ sets before at (merged_text a n b m)
    stops h = ended a b n m its_lines others before at out x y i j inv (omega (arith, h, turn.taken))

    module _ (go : line < n + m) (few : n + m ≤ max_frames) where
      on : i + j < n + m
      on = omega (arith, go, turn.taken)

      module _ (le : x ≤ y) where
        pub next_first : Next first.lines.now first.end first.from first.key
        next_first =
            is_next a n its_lines i first turn.first_stands (in_first a b n m its_lines others before at out x y i j inv on le) (omega (arith, few))
            (first_key a b n m its_lines others before at out x y i j inv on le)

        pub took_first :
            (next : List ℕ) (first' : Side) → next ≡ sets out (at + 11 * line) (take 11 (drop first.from (upper_case first.lines.now)))
            → (first'.lines.now ≡ first.lines.now) × (first'.end ≡ first.end) → first'.from ≡ first.from + 11
            → first'.key ≡ key_at first.lines.now first.end (first.from + 11) → Turn a b n m before at next first' second (line + 1)
        took_first next first' put lines from key =
            record {
              i = i + 1;
              j = j;
              taken = omega (arith, turn.taken);
              first_stands = goes_on a n its_lines i first turn.first_stands first' lines from;
              second_stands = turn.second_stands;
              merging =
                  on_first a b n m its_lines others before at out x y i j inv on le next first'.key
                  (rw (turn.taken, turn.first_stands.lines.0, turn.first_stands.from) at put)
                  (key_after a n its_lines i first turn.first_stands first'.key key);
            }

      module _ (lt : y < x) where
        pub next_second : Next second.lines.now second.end second.from second.key
        next_second =
            is_next b m others j second turn.second_stands (in_second a b n m its_lines others before at out x y i j inv on lt) (omega (arith, few))
            (second_key a b n m its_lines others before at out x y i j inv on lt)

        pub took_second :
            (next : List ℕ) (second' : Side) → next ≡ sets out (at + 11 * line) (take 11 (drop second.from (upper_case second.lines.now)))
            → (second'.lines.now ≡ second.lines.now) × (second'.end ≡ second.end) → second'.from ≡ second.from + 11
            → second'.key ≡ key_at second.lines.now second.end (second.from + 11) → Turn a b n m before at next first second' (line + 1)
        took_second next second' put lines from key =
            record {
              i = i;
              j = j + 1;
              taken = omega (arith, turn.taken);
              first_stands = turn.first_stands;
              second_stands = goes_on b m others j second turn.second_stands second' lines from;
              merging =
                  on_second a b n m its_lines others before at out x y i j inv on lt next second'.key
                  (rw (turn.taken, turn.second_stands.lines.0, turn.second_stands.from) at put)
                  (key_after b m others j second turn.second_stands second'.key key);
            }
