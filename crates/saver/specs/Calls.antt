-- What the saver's calls answer (document 01, "The checker and the saver" and the refusal table), for every record, card and pool.
--
-- A frame that no cycle has written waits in the pool. The pool's frames stand at the first places of a record's two tables, oldest first.
-- Assumes nothing.
use Rattle.std.specs.Prelude.{ℕ, ◌+◌, Bool, true, false, ◌&&◌, cond, List, map, eqb, leb, ltb, length, set, replicate}
use Rattle.counting.specs.Count.{tabulate, written}
use Rattle.counting.specs.declared.Cycle.{Cycle}
use Rattle.counting.specs.declared.Position.{Position}
use Rattle.header.specs.Limits.{max_cards, max_pool, max_frames}
use Rattle.greedy_pool.specs.Pool.{none, left, writes}
use Rattle.saver.specs.declared.Saver.{Saver}
use Rattle.saver.specs.declared.Answer.{Answer}

abbrev pub position : ℕ → Position
position i = record { 0 = i }

abbrev pub cycle : ℕ → Cycle
cycle c = record { 0 = c }

-- positions by their numbers, as crates/greedy_pool takes them
abbrev pub numbers : List Position → List ℕ
numbers l = map (λ p. p.0) l

-- "nothing taken or waiting"
abbrev pub new_saver : ℕ → ℕ → Bool → Saver
new_saver cards pool closing =
    record {
      cards = cards;
      pool = pool;
      taken = 0;
      made = cycle 0;
      waiting = 0;
      closing = closing;
      card = replicate max_pool 0;
      position = replicate max_pool (position 0);
    }

-- "the record that comes with such a refusal has one card, a pool of 1, nothing taken or waiting, and closing begun"
abbrev pub no_saver : Saver
no_saver = new_saver 1 1 true

-- "Beside a refusal's number, other numbers of the answer are 0 and the saver's 32 entries are 65,535"; the record is as given.
abbrev pub refusal : ℕ → Saver → Answer
refusal number s = record { refusal = number; cycle = cycle 0; written = replicate max_cards (position none); saver = s }

-- a call that makes no cycle
abbrev pub quiet : Saver → Answer
quiet s = refusal 0 s

-- "the frame enters": "A saved frame gets the next position."
abbrev pub entered : Saver → ℕ → Saver
entered s card =
    record {
      cards = s.cards;
      pool = s.pool;
      taken = s.taken + 1;
      made = s.made;
      waiting = s.waiting + 1;
      closing = s.closing;
      card = set s.card s.waiting card;
      position = set s.position s.waiting (position s.taken);
    }

-- the frames that a cycle leaves in the pool: their cards, and their positions
abbrev pub cards_left : Saver → List ℕ
cards_left s = left s.card s.card s.waiting

abbrev pub positions_left : Saver → List ℕ
positions_left s = left s.card (numbers s.position) s.waiting

-- "one cycle is made: every card with waiting frames writes the one that is first in the list"
abbrev pub after_cycle : Saver → Saver
after_cycle s =
    record {
      cards = s.cards;
      pool = s.pool;
      taken = s.taken;
      made = cycle (s.made.0 + 1);
      waiting = length (cards_left s);
      closing = s.closing;
      card = written (cards_left s) (replicate max_pool 0);
      position = map position (written (positions_left s) (replicate max_pool 0));
    }

-- "Each call's answer has one entry for each of the 32 cards: the position written in this cycle, or 65,535 for none."
abbrev pub entries : Saver → List Position
entries s = map position (tabulate max_cards (λ k. writes k s.card (numbers s.position) s.waiting))

abbrev pub cycle_on : Saver → Answer
cycle_on s = record { refusal = 0; cycle = cycle (s.made.0 + 1); written = entries s; saver = after_cycle s }

-- an answer whose record the frame then enters
abbrev pub then_enters : Answer → ℕ → Answer
then_enters a card = record { refusal = a.refusal; cycle = a.cycle; written = a.written; saver = entered a.saver card }

abbrev pub closing_begun : Saver → Saver
closing_begun s =
    record {
      cards = s.cards;
      pool = s.pool;
      taken = s.taken;
      made = s.made;
      waiting = s.waiting;
      closing = true;
      card = s.card;
      position = s.position;
    }

-- "A new saver gives 4, then 5"
unfoldable pub new_of : ℕ → ℕ → Answer
new_of cards pool =
    cond (leb 1 cards && leb cards max_cards)
    (cond (leb 1 pool && leb pool max_pool) (quiet (new_saver cards pool false)) (refusal 5 no_saver))
    (refusal 4 no_saver)

-- "a save gives 15, 8, 13 in that order"; "If the pool has fewer than m, the frame enters. If not, one cycle is made ..; then the frame enters."
unfoldable pub save_of : Saver → ℕ → Answer
save_of s card =
    cond s.closing
    (refusal 15 s)
    (cond (ltb card s.cards)
    (cond (ltb s.taken max_frames)
    (cond (ltb s.waiting s.pool) (quiet (entered s card)) (then_enters (cycle_on s) card))
    (refusal 13 s))
    (refusal 8 s))

-- "a closing cycle with an empty pool" is refused by 14; "Closing begins with the first closing cycle that is not refused."
unfoldable pub close_of : Saver → Answer
close_of s = cond (eqb s.waiting 0) (refusal 14 s) (cycle_on (closing_begun s))

-- "A record is one that a new saver or an earlier call gave"
pub data Given : Saver → Type 0 where
  opened : (cards pool : ℕ) → Given (new_of cards pool).saver
  saved : (s : Saver) (card : ℕ) → Given s → Given (save_of s card).saver
  closed : (s : Saver) → Given s → Given (close_of s).saver
