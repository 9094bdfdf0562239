-- Every record that a call gave is formed: the limits hold, and its tables have the frames that wait.
-- Assumes nothing.
use Prim.Native.Nat.{ℕ, ◌+◌, ◌≤◌, ◌<◌}
use mathlib.Core.Path.{◌≡◌, ◌∙◌}
use mathlib.Core.Bool.{Bool, true, false, ◌&&◌}
use mathlib.Core.List.{List}
use native.Mathlib.Omega.{arith}
use lib.Dec.{leb}
use lib.ListN.{length, drop, replicate, length-set, length-append, length-drop, length-replicate, length-map, get_or-append}
use borrow.Author.Tests.{leb-true}
use Rattle.counting.specs.Count.{written}
use Rattle.counting.proofs.Bits.{by_test, and_left, and_right}
use Rattle.counting.proofs.Parts.{one_more_below}
use Rattle.header.specs.Limits.{max_cards, max_pool, max_frames}
use Rattle.greedy_pool.proofs.Left.{left_shorter, left_same_length, left_all}
use Rattle.saver.specs.declared.Saver.{Saver}
use Rattle.saver.specs.declared.Answer.{Answer}
use Rattle.saver.specs.Calls.{position, numbers, new_saver, no_saver, entered, cards_left, positions_left, after_cycle, closing_begun}
use Rattle.saver.specs.Calls.{new_of, save_of, close_of, Given, opened, saved, closed}
use Rattle.saver.specs.Formed.{Formed}
use Rattle.saver.proofs.Tables.{numbers_of, numbers_set}
use Rattle.saver.proofs.Answers.{save_cases, close_cases}

formed_new : (cards pool : ℕ) (closing : Bool) → 1 ≤ cards → cards ≤ max_cards → 1 ≤ pool → pool ≤ max_pool
    → Formed (new_saver cards pool closing)
formed_new cards pool closing a b h k =
    record {
      few_cards = b;
      small_pool = k;
      some_pool = h;
      fits_pool = omega arith;
      all_taken = omega arith;
      few_taken = omega arith;
      each_card = λ i l. absurd (omega arith);
      each_position = λ i l. absurd (omega arith);
      cards_long = length-replicate {A = ℕ} max_pool 0;
      positions_long = length-replicate max_pool (position 0);
    }

formed_entered : (s : Saver) (card : ℕ) → Formed s → card < s.cards → s.taken < max_frames → s.waiting < s.pool → Formed (entered s card)
formed_entered s card f c t w =
    record {
      few_cards = f.few_cards;
      small_pool = f.small_pool;
      some_pool = f.some_pool;
      fits_pool = omega arith;
      all_taken = omega (arith, f.all_taken);
      few_taken = omega arith;
      each_card = one_more_below s.card s.waiting card s.cards (omega (arith, f.cards_long, f.small_pool)) f.each_card c;
      each_position =
          rw (numbers_set s.position s.waiting s.taken)
          (one_more_below (numbers s.position) s.waiting s.taken (s.taken + 1)
          (omega (arith, length-map s.position (λ p. p.0), f.positions_long, f.small_pool))
          (λ i l. omega (arith, f.each_position i l))
          (omega arith));
      cards_long = length-set s.card s.waiting card ∙ f.cards_long;
      positions_long = length-set s.position s.waiting (position s.taken) ∙ f.positions_long;
    }

-- a list that fits stands at the front of an empty table
table_long : (l : List ℕ) → length l ≤ max_pool → length (written l (replicate max_pool 0)) ≡ max_pool
table_long l h =
    omega (
      arith,
      length-append l (drop (length l) (replicate max_pool 0)),
      length-drop (length l) (replicate {A = ℕ} max_pool 0),
      length-replicate {A = ℕ} max_pool 0,
    )

pub formed_cycle : (s : Saver) → Formed s → 1 ≤ s.waiting → Formed (after_cycle s) × ((after_cycle s).waiting < s.waiting)
formed_cycle s f some =
    let fewer : length (cards_left s) < s.waiting = left_shorter s.card s.card s.waiting some in
    let same : length (cards_left s) ≡ length (positions_left s) = left_same_length s.card s.card (numbers s.position) s.waiting in (
      record {
        few_cards = f.few_cards;
        small_pool = f.small_pool;
        some_pool = f.some_pool;
        fits_pool = omega (arith, f.fits_pool);
        all_taken = omega (arith, f.all_taken);
        few_taken = f.few_taken;
        each_card = λ i l. rw (get_or-append (cards_left s) _ 0 i l) (left_all s.card s.card s.waiting s.cards f.each_card i l);
        each_position = λ i l.
            rw (numbers_of (written (positions_left s) (replicate max_pool 0)), get_or-append (positions_left s) _ 0 i (omega arith))
            (left_all s.card (numbers s.position) s.waiting s.taken f.each_position i (omega arith));
        cards_long = table_long (cards_left s) (omega (arith, f.fits_pool, f.small_pool));
        positions_long =
            length-map (written (positions_left s) (replicate max_pool 0)) position ∙ table_long (positions_left s) (omega (arith, f.fits_pool, f.small_pool));
      },
      fewer,
    )

pub formed_closing : (s : Saver) → Formed s → Formed (closing_begun s)
formed_closing s f =
    record {
      few_cards = f.few_cards;
      small_pool = f.small_pool;
      some_pool = f.some_pool;
      fits_pool = f.fits_pool;
      all_taken = f.all_taken;
      few_taken = f.few_taken;
      each_card = f.each_card;
      each_position = f.each_position;
      cards_long = f.cards_long;
      positions_long = f.positions_long;
    }

formed_refused : Formed no_saver
formed_refused = formed_new 1 1 true (omega arith) (omega arith) (omega arith) (omega arith)

pub formed_opened : (cards pool : ℕ) → Formed (new_of cards pool).saver
unfolding new_of
formed_opened cards pool =
    by_test (λ (r : Answer). Formed r.saver) (leb 1 cards && leb cards max_cards) _ _
    (λ c. by_test (λ (r : Answer). Formed r.saver) (leb 1 pool && leb pool max_pool) _ _
    (λ m. formed_new cards pool false
    (leb-true 1 cards (and_left (leb 1 cards) (leb cards max_cards) c))
    (leb-true cards max_cards (and_right (leb 1 cards) (leb cards max_cards) c))
    (leb-true 1 pool (and_left (leb 1 pool) (leb pool max_pool) m))
    (leb-true pool max_pool (and_right (leb 1 pool) (leb pool max_pool) m)))
    (λ m. formed_refused))
    (λ c. formed_refused)

pub formed_save : (s : Saver) (card : ℕ) → Formed s → Formed (save_of s card).saver
formed_save s card f =
    save_cases s card (λ (r : Answer). Formed r.saver) (λ a. f) (λ b. f) (λ d. f)
    (λ a b d e. formed_entered s card f b d e)
    (λ a b d e.
    let next : Formed (after_cycle s) × ((after_cycle s).waiting < s.waiting) = formed_cycle s f (omega (arith, f.some_pool)) in
    formed_entered (after_cycle s) card next.0 b d (omega (arith, next.1, f.fits_pool)))

pub formed_close : (s : Saver) → Formed s → Formed (close_of s).saver
formed_close s f =
    close_cases s (λ (r : Answer). Formed r.saver) (λ a. f) (λ a. (formed_cycle (closing_begun s) (formed_closing s f) a).0)

pub given_formed : {s : Saver} → Given s → Formed s
given_formed (opened cards pool) = formed_opened cards pool
given_formed (saved s card g) = formed_save s card (given_formed g)
given_formed (closed s g) = formed_close s (given_formed g)
