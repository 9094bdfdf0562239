-- One cycle as a pass over the pool: what the tables of the new record hold when the first i frames have been looked at.
-- Assumes nothing.
use Prim.Native.Nat.{ℕ, ◌+◌, ◌≤◌, ◌<◌}
use mathlib.Core.Path.{◌≡◌, refl, sym, ap, ◌∙◌}
use mathlib.Core.Bool.{true, false, and-false}
use mathlib.Core.List.{List, [], ◌∷◌, ◌++◌, append-nil, map}
use native.Mathlib.Omega.{arith}
use native.Mathlib.Numerals.{add-one}
use lib.Dec.{eqb}
use lib.ListN.{length, get_or, set, replicate, length-append, length-replicate, get_or-map}
use borrow.Author.Tests.{eq-eqb, ne_eqb}
use Rattle.counting.specs.Count.{tabulate, written}
use Rattle.counting.specs.Frames.{card_of}
use Rattle.counting.specs.declared.Position.{Position}
use Rattle.counting.proofs.Lists.{get_or_tabulate, tabulate_cong, set_tabulate}
use Rattle.counting.proofs.Parts.{written_set}
use Rattle.header.specs.Limits.{max_cards, max_pool}
use Rattle.greedy_pool.specs.Pool.{none, is_oldest, left, writes}
use Rattle.greedy_pool.proofs.Left.{left_no_longer, left_same_length, writes_none}
use Rattle.saver.specs.declared.Saver.{Saver}
use Rattle.saver.specs.Calls.{position, cycle, numbers, cycle_on}
use Rattle.saver.specs.Formed.{Formed}
use Rattle.counting.proofs.Parts.{map_set}

-- `entries` has what each card writes of those frames; the n others stand at the front of the new tables.
pub record Sorting (s : Saver) (entries : List Position) (cards : List ℕ) (positions : List Position) (n i : ℕ) : Type 0 where
  pub fewer : n ≤ i
  pub count : n ≡ length (left s.card s.card i)
  pub cards_left : cards ≡ written (left s.card s.card i) (replicate max_pool 0)
  pub positions_left : positions ≡ map position (written (left s.card (numbers s.position) i) (replicate max_pool 0))
  pub entries_so_far : entries ≡ map position (tabulate max_cards (λ k. writes k s.card (numbers s.position) i))

pub card_below : {s : Saver} → Formed s → (i : ℕ) → i < s.waiting → get_or s.card i 0 < max_cards
card_below f i l = omega (arith, f.each_card i l, f.few_cards)

pub sort_first : {s : Saver} → Sorting s (replicate max_cards (position none)) (replicate max_pool 0) (replicate max_pool (position 0)) 0 0
sort_first = record { fewer = omega arith; count = refl; cards_left = refl; positions_left = refl; entries_so_far = refl }

-- what a frame more leaves of a table's values
left_keeps : (c v : List ℕ) (i : ℕ) → is_oldest c i ≡ false → left c v (i + 1) ≡ left c v i ++ (get_or v i 0 ∷ [])
left_keeps c v i e = rw (add-one, e)

left_drops : (c v : List ℕ) (i : ℕ) → is_oldest c i ≡ true → left c v (i + 1) ≡ left c v i
left_drops c v i e = rw (add-one, e) (append-nil (left c v i))

-- what a frame more lets the cards write
writes_new : (c v : List ℕ) (i : ℕ) → is_oldest c i ≡ true → writes (card_of c i) c v (i + 1) ≡ get_or v i 0
writes_new c v i e = rw (add-one, e, eq-eqb (card_of c i) (card_of c i) refl)

writes_other : (k : ℕ) (c v : List ℕ) (i : ℕ) → (k ≡ card_of c i → ⊥) → writes k c v i ≡ writes k c v (i + 1)
writes_other k c v i d = rw (add-one, ne_eqb (card_of c i) k (λ e. d (sym e)))

writes_same : (k : ℕ) (c v : List ℕ) (i : ℕ) → is_oldest c i ≡ false → writes k c v i ≡ writes k c v (i + 1)
writes_same k c v i e = rw (add-one, e, and-false (eqb (card_of c i) k))

module _ {s : Saver} {entries positions : List Position} {cards : List ℕ} {n i : ℕ} (f : Formed s) (v : Sorting s entries cards positions n i) where
  abbrev card : ℕ
  card = get_or s.card i 0

  abbrev numbered : List ℕ
  numbered = numbers s.position

  -- the position of the frame at place i, and its number
  abbrev frame : Position
  frame = get_or s.position i (position 0)

  abbrev place : ℕ
  place = get_or numbered i 0

  frame_place : frame ≡ position place
  frame_place = ap position (sym (get_or-map (λ p. p.0) s.position i (position 0)))

  abbrev writing : ℕ → ℕ → ℕ
  writing j k = writes k s.card numbered j

  module _ (l : i < s.waiting) where
    -- the entry of the frame's card is still free exactly when the frame is the first of its card
    entry_oldest : eqb (get_or entries card (position 0)).0 none ≡ is_oldest s.card i
    entry_oldest =
        rw (
          v.entries_so_far,
          get_or-map position (tabulate max_cards (writing i)) card 0,
          get_or_tabulate max_cards (writing i) card 0 (card_below f i l),
        )
        (writes_none card s.card numbered i (λ j g. omega (arith, f.each_position j (omega arith), f.few_taken)))

    kept :
        (values table : List ℕ) → is_oldest s.card i ≡ false → table ≡ written (left s.card values i) (replicate max_pool 0)
        → set table n (get_or values i 0) ≡ written (left s.card values (i + 1)) (replicate max_pool 0)
    kept values table o e =
        let same : n ≡ length (left s.card values i) = v.count ∙ left_same_length s.card s.card values i in
        rw (e, same, left_keeps s.card values i o)
        (written_set (left s.card values i) (replicate max_pool 0) (get_or values i 0)
        (omega (arith, length-replicate {A = ℕ} max_pool 0, left_no_longer s.card values i, f.fits_pool, f.small_pool)))

    entry_set : is_oldest s.card i ≡ true → set (tabulate max_cards (writing i)) card place ≡ tabulate max_cards (writing (i + 1))
    entry_set o =
        rw (writes_new s.card numbered i o)
        at (set_tabulate max_cards (writing i) (writing (i + 1)) card (card_below f i l) (λ k h d. writes_other k s.card numbered i d))

    pub sort_writes : (get_or entries card (position 0)).0 ≡ none → Sorting s (set entries card frame) cards positions n (i + 1)
    sort_writes e =
        let o : is_oldest s.card i ≡ true = sym entry_oldest ∙ eq-eqb (get_or entries card (position 0)).0 none e in
        record {
          fewer = omega (arith, v.fewer);
          count = rw (left_drops s.card s.card i o) v.count;
          cards_left = rw (left_drops s.card s.card i o) v.cards_left;
          positions_left = rw (left_drops s.card numbered i o) v.positions_left;
          entries_so_far =
              rw (v.entries_so_far, frame_place) (map_set position (tabulate max_cards (writing i)) card place ∙ ap (map position) (entry_set o));
        }

    pub sort_keeps : ((get_or entries card (position 0)).0 ≡ none → ⊥) → Sorting s entries (set cards n card) (set positions n frame) (n + 1) (i + 1)
    sort_keeps e =
        let o : is_oldest s.card i ≡ false = sym entry_oldest ∙ ne_eqb (get_or entries card (position 0)).0 none e in
        record {
          fewer = omega (arith, v.fewer);
          count = rw (left_keeps s.card s.card i o) (omega (arith, v.count, length-append (left s.card s.card i) (card ∷ [])));
          cards_left = kept s.card cards o v.cards_left;
          positions_left =
              rw (v.positions_left, frame_place)
              (map_set position (written (left s.card numbered i) (replicate max_pool 0)) n place ∙ ap (map position) (kept numbered _ o refl));
          entries_so_far =
              v.entries_so_far
              ∙ ap (map position)
              (tabulate_cong max_cards (writing i) (writing (i + 1)) (λ k h. writes_same k s.card numbered i o));
        }

-- All frames looked at: the new record is the record after the cycle.
pub sorted : {s : Saver} {entries positions : List Position} {cards : List ℕ} {n i : ℕ} → Sorting s entries cards positions n i → i ≡ s.waiting
    → record {
      refusal = 0;
      cycle = cycle (s.made.0 + 1);
      written = entries;
      saver =
          record {
            cards = s.cards;
            pool = s.pool;
            taken = s.taken;
            made = cycle (s.made.0 + 1);
            waiting = n;
            closing = s.closing;
            card = cards;
            position = positions;
          };
    }
    ≡ cycle_on s
sorted v e = rw (v.count, v.cards_left, v.positions_left, v.entries_so_far, e)
