-- The public theorems about `join`, each proved in a module of its own. The contract of `join` (src/lib.rt) states the same for each call: the
-- answer, the buffer afterwards, and what request 2026-04 promises of a joined ticket (specs/Showing.antt).
-- Assumes nothing.
use Prim.Native.Nat.{ℕ, ◌+◌, ◌*◌, ◌≤◌, ◌<◌}
use mathlib.Core.Path.{◌≡◌, refl}
use mathlib.Core.Bool.{true}
use mathlib.Core.List.{List, [], ◌∷◌, map}
use lib.ListN.{length, take}
use Rattle.header.specs.declared.Header.{Header}
use Rattle.ticket.specs.Seconds.{seconds_of}
use Rattle.ticket.specs.Ticket.{accepted, parse}
use Rattle.merged_lines.specs.Merge.{Frame, frames, merge}
use Rattle.merged_lines.proofs.Merging as merging
use Rattle.join.specs.Cases.{answered, expected, cases}
use Rattle.join.specs.Join.{joined_header, joinable, CanJoin, join_of, Answered}
use Rattle.join.specs.Numbers.{numbers_of}
use Rattle.join.specs.Showing.{Showing}
use Rattle.std.specs.Prelude.{Result, Ok}
use Rattle.join.proofs.Cases as table
use Rattle.join.proofs.Refusals as refusals
use Rattle.join.proofs.Showing as showings

-- Every answer that equals the definitions of specs/Join.antt, for whichever texts and buffer, keeps the request's promises about the ticket that
-- now stands in the buffer: the reader accepts it, it has the frames of both in the order asked for, and it takes no fewer cycles than either half.
pub join_shows : (first second before after : List ℕ) (r : Result ℕ ℕ) → Answered (join_of first second) before after r
    → Showing first second (numbers_of r).refusal (numbers_of r).bytes after
join_shows = showings.call_shows

-- A joined ticket has 15 + 11 × L bytes, L the frames of both together.
pub joined_bytes :
    (first second before after : List ℕ) (n : ℕ) → Answered (join_of first second) before after (Ok n)
    → (g h : Header) (a b : List ℕ) → parse first ≡ accepted g a → parse second ≡ accepted h b → n ≡ 15 + 11 * (length a + length b)
joined_bytes first second before after n call = showings.joined_bytes first second before after (Ok n) call refl

-- The reader accepts the bytes of a joined ticket with exactly the merged values, cards and seconds.
pub joined_values :
    (first second before after : List ℕ) (n : ℕ) → Answered (join_of first second) before after (Ok n)
    → (g h : Header) (a b : List ℕ) → parse first ≡ accepted g a → parse second ≡ accepted h b
    → (whole : List Frame) → whole ≡ merge (frames a (seconds_of first)) (frames b (seconds_of second))
    → (parse (take n after) ≡ accepted (joined_header g (length whole)) (map (λ f. f.card) whole))
    × (seconds_of (take n after) ≡ map (λ f. f.second) whole)
joined_values first second before after n call g h a b e f whole is =
    rw is (showings.joined_values first second before after (Ok n) call refl g h a b e f)

-- Two accepted tickets are not refused by 18 exactly when both are edition 02 reads, with the same cards and pool.
pub joinable_exactly : (g h : Header) → (joinable g h ≡ true → CanJoin g h) × (CanJoin g h → joinable g h ≡ true)
joinable_exactly g h = (refusals.can_join g h, refusals.joins g h)

-- The refusals 18, 19 and 10, in this order, and boundaries of each, computed.
pub cases_hold : map answered cases ≡ map expected cases
cases_hold = table.cases_hold

-- How two lists are merged, in plain equations: with no frames a list stays as it is; of two first frames the one with the smaller second comes
-- first, and at equal seconds that of the first list.
pub none_merge : (b : List Frame) → merge [] b ≡ b
none_merge = merging.none_merge

pub merge_none : (a : List Frame) → merge a [] ≡ a
merge_none = merging.merge_none

module _ (x y : Frame) (a b : List Frame) where
  pub merge_first : x.second ≤ y.second → merge (x ∷ a) (y ∷ b) ≡ x ∷ merge a (y ∷ b)
  merge_first = merging.merge_first x y a b

  pub merge_second : y.second < x.second → merge (x ∷ a) (y ∷ b) ≡ y ∷ merge (x ∷ a) b
  merge_second = merging.merge_second x y a b
