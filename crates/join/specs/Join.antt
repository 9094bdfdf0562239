-- Two tickets joined into one (request 2026-04, "One showing from two tickets"): the text of the joined ticket, or the number of a refusal; what
-- the call answers, and what it leaves in the lent buffer.
--
-- Edge cases: two tickets without frames join to a header of 15 bytes; a ticket may be joined with itself.
-- Assumes nothing.
use Rattle.std.specs.Prelude.{ℕ, ◌+◌, ◌≡◌, Bool, ◌&&◌, cond, List, map, eqb, ltb, length}
use Rattle.counting.specs.Count.{written}
use Rattle.header.specs.Editions.{edition2}
use Rattle.header.specs.Limits.{mode_read, max_frames}
use Rattle.header.specs.declared.Header.{Header}
use Rattle.ticket.specs.Print.{ticket_text}
use Rattle.ticket.specs.Seconds.{seconds_of}
use Rattle.ticket.specs.Ticket.{Parsed, accepted, refused, parse}
use Rattle.merged_lines.specs.Merge.{Frame, frames, merge}
use Rattle.std.specs.Prelude.{Result, Ok, Err}

-- The text of the joined ticket, or the number of a refusal.
pub data Outcome : Type 0 where
  joined : List ℕ → Outcome
  turned_down : ℕ → Outcome

-- the header of the joined ticket: an edition 02 read, with the cards and the pool of both
abbrev pub joined_header : Header → ℕ → Header
joined_header h count = record { edition = edition2; mode = mode_read; cards = h.cards; pool = h.pool; frames = count }

-- "written as an upper-case edition 02 ticket"
abbrev pub joined_text : Header → List Frame → List ℕ
joined_text h all = ticket_text (joined_header h (length all)) (map (λ f. f.card) all) (map (λ f. f.second) all)

-- an edition 02 read
abbrev pub timed_read : Header → Bool
timed_read h = eqb h.edition edition2 && eqb h.mode mode_read

-- whether two tickets can be joined: both are edition 02 reads, of the same cards and pool
unfoldable pub joinable : Header → Header → Bool
joinable g h = (timed_read g && timed_read h) && (eqb g.cards h.cards && eqb g.pool h.pool)

-- the same in plain words
pub record CanJoin (g h : Header) : Type 0 where
  pub first_edition : g.edition ≡ edition2
  pub first_mode : g.mode ≡ mode_read
  pub second_edition : h.edition ≡ edition2
  pub second_mode : h.mode ≡ mode_read
  pub same_cards : g.cards ≡ h.cards
  pub same_pool : g.pool ≡ h.pool

-- "18 where a ticket is not edition 02, is not a read, or cards or pool differ; then 19 for more than 4,096 frames together"
unfoldable pub join_read : Header → List Frame → Header → List Frame → Outcome
join_read g a h b =
    cond (joinable g h) (cond (ltb max_frames (length a + length b)) (turned_down 19) (joined (joined_text g (merge a b)))) (turned_down 18)

-- "Each ticket meets its own refusals first, the first ticket before the second"
abbrev pub join_parsed : Parsed → List ℕ → Parsed → List ℕ → Outcome
join_parsed (refused k) seconds q others = turned_down k
join_parsed (accepted g a) seconds (refused k) others = turned_down k
join_parsed (accepted g a) seconds (accepted h b) others = join_read g (frames a seconds) h (frames b others)

-- Two texts joined, whatever they are.
unfoldable pub join_of : List ℕ → List ℕ → Outcome
join_of first second = join_parsed (parse first) (seconds_of first) (parse second) (seconds_of second)

-- What the call answers, with a buffer of so many places: "10 now also means too few places for the result, and comes last".
unfoldable pub answer_of : Outcome → ℕ → Result ℕ ℕ
answer_of (joined text) places = cond (ltb places (length text)) (Err 10) (Ok (length text))
answer_of (turned_down k) places = Err k

-- The buffer afterwards: "later places of the buffer keep their content"; a refusal changes nothing.
unfoldable pub buffer_after : Outcome → List ℕ → List ℕ
buffer_after (joined text) before = cond (ltb (length before) (length text)) before (written text before)
buffer_after (turned_down k) before = before

-- What one call did: the answer and the buffer, both equal to the definitions above.
pub record Answered (join : Outcome) (before after : List ℕ) (r : Result ℕ ℕ) : Type 0 where
  pub answer : r ≡ answer_of join (length before)
  pub buffer : after ≡ buffer_after join before
