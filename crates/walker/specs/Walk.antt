-- The ticket walker (document 01: it "carries a reference to the ticket bytes and the next position; it is a thin cover over the
-- reader"). A walker is the bytes that it goes through and the position of the line that it gives next.
--
-- Edge cases: the empty part says "end"; a walker at its end stays there. Any bytes and any position make a walker, and the calls'
-- contracts speak of all of them; `WalksOn` says which ones are on a ticket.
-- Assumes nothing.
use Rattle.std.specs.Prelude.{ℕ, zero, suc, ◌+◌, Bool, ◌&&◌, cond, ◌≡◌, List, [], ◌∷◌, ◌++◌, eqb, ltb, length}
use Rattle.header.specs.Editions.{line_digits}
use Rattle.header.specs.Heading.{edition_of}
use Rattle.header.specs.Limits.{max_frames}
use Rattle.ticket.specs.Ticket.{parse, refusal_of, line_start, line_in, line_of}
use Rattle.counting.specs.declared.Position.{Position}
use Rattle.walker.specs.declared.Walker.{Walker}

-- "Starting it meets the ticket's own refusals": a walker goes through the bytes of an accepted ticket, and through none of a refused one.
unfoldable pub opened : List ℕ → List ℕ
opened t = cond (eqb (refusal_of (parse t)) 0) t []

-- "end" is said by the empty part: no line is empty.
abbrev pub end : List ℕ
end = []

-- The line at a position of such bytes, as wide as their edition says. No ticket has more lines than the limit.
module _ (bytes : List ℕ) (p : ℕ) where
  unfoldable pub has_line : Bool
  has_line = ltb p max_frames && ltb (line_start bytes p + line_digits (edition_of bytes)) (length bytes)

  -- the line, or the end
  unfoldable pub line_at : List ℕ
  line_at = cond has_line (line_in bytes p) end

  -- the byte at which this part begins; the empty part stands at the first byte
  unfoldable pub place_at : ℕ
  place_at = cond has_line (line_start bytes p) 0

  -- the position that is next after it; at the end it stays
  unfoldable pub next_at : ℕ
  next_at = cond has_line (p + 1) p

module _ (w : Walker) where
  -- what a step gives: a line, or the end
  abbrev pub gives : List ℕ
  gives = line_at w.ticket.now w.next.0

  -- the byte at which that part begins
  abbrev pub gives_from : ℕ
  gives_from = place_at w.ticket.now w.next.0

  -- the walker at another position
  abbrev pub moved_to : Position → Walker
  moved_to p = record { ticket = w.ticket; next = p }

  -- the walker after a step: the same bytes, at the next position
  abbrev pub stepped : Walker
  stepped = moved_to (record { 0 = next_at w.ticket.now w.next.0 })

-- the walker after k steps
abbrev pub after : ℕ → Walker → Walker
after zero w = w
after (suc k) w = stepped (after k w)

-- what n steps give, in their order
abbrev pub walk : ℕ → Walker → List (List ℕ)
walk zero w = []
walk (suc n) w = walk n w ++ (gives (after n w) ∷ [])

-- w is a walker on the ticket t that gives the line at position p next. `start` gives one at 0.
pub record WalksOn (t : List ℕ) (p : ℕ) (w : Walker) : Type 0 where
  pub bytes : w.ticket.now ≡ opened t
  pub position : w.next.0 ≡ p

-- the reader's lines at the first n positions, in list order
abbrev pub reader_lines : List ℕ → ℕ → List (List ℕ)
reader_lines t zero = []
reader_lines t (suc n) = reader_lines t n ++ (line_of t n ∷ [])
