-- The public theorems about tickets of both editions: the answer to every text (demand 1), and what an accepted ticket is.
-- Texts are lists of bytes, of any length and content. The definitions are in specs/: Ticket, Seconds, Grounds and Print.
-- Assumes nothing.
use Prim.Native.Nat.{ℕ, ◌+◌, ◌*◌, ◌≤◌, ◌<◌}
use mathlib.Core.Bool.{cond}
use mathlib.Core.Path.{◌≡◌, refl, sym, ap, ◌∙◌}
use mathlib.Core.List.{List, [], ◌++◌}
use mathlib.Core.Logic.{◌⊎◌, inl, inr, ⊎_elim}
use native.Mathlib.Omega.{arith}
use lib.Dec.{ltb}
use lib.ListN.{length, take, drop}
use borrow.Author.Tests.{lt-ltb}
use Rattle.counting.specs.Count.{written}
use Rattle.counting.specs.Frames.{card_of}
use Rattle.text.specs.Text.{number, is_line, Line}
use Rattle.text.specs.UpperCase.{upper_case}
use Rattle.header.specs.Editions.{edition1, edition2, Known, line_bytes}
use Rattle.header.specs.Heading.{header_digits, header_bytes, edition_of}
use Rattle.header.specs.Limits.{Within, mode_save_and_keep, max_cards, max_frames}
use Rattle.frame_lines.specs.Lines.{card_at, second_at, line_fault}
use Rattle.ticket.specs.Grounds.{TicketRefusal, Says, row5, Fits, mode_of, cards_of, pool_of}
use Rattle.ticket.specs.Print.{line_text, ticket_text}
use Rattle.ticket.specs.Seconds.{seconds_of, second_of, SecondsFit}
use Rattle.ticket.specs.Ticket.{Parsed, accepted, refused, parse, read_into, longest_ticket, line_in, line_of}
use Rattle.header.specs.declared.Header.{Header}
use Rattle.ticket.proofs.Reader as reader
use Rattle.ticket.proofs.Accepted as accepting
use Rattle.ticket.proofs.Written as writing
use Rattle.ticket.proofs.Front as front
use Rattle.ticket.proofs.Seconds as seconds
use Rattle.ticket.proofs.EachEdition as editions
use Rattle.ticket.proofs.Again as again
use Rattle.ticket.proofs.Memory as memories
use Rattle.ticket.proofs.EitherCase as cases

-- Every text is answered as the table of refusals says, on exactly the stated conditions and in the stated order.
pub parse_says : (t : List ℕ) → Says t (parse t)
parse_says = reader.says

-- No other answer fits the table.
pub parse_only : (t : List ℕ) (a : Parsed) → Says t a → parse t ≡ a
parse_only = reader.only

-- Every text is accepted, or refused by one number: from 1 to 9, or 17, which only edition 02 has.
pub accepted_or_refused :
    (t : List ℕ)
    → ((h : Header) × (cards : List ℕ) × (parse t ≡ accepted h cards)) ⊎ ((k : ℕ) × TicketRefusal t k × (parse t ≡ refused k))
accepted_or_refused t =
    (elim (parse t) as (λ a. parse t ≡ a → ((h : Header) × (cards : List ℕ) × (a ≡ accepted h cards))
    ⊎ ((k : ℕ) × TicketRefusal t k × (a ≡ refused k))) [
      | accepted h cards ↦ λ e. inl (h, cards, refl)
      | refused k ↦ λ e. inr (k, reader.refusal_number t k e, refl)
    ]) refl

-- A text is settled by its first 45,072 bytes, one more than the longest ticket has: what follows changes no answer, and no second.
pub front_settles : (n : ℕ) (t : List ℕ) → longest_ticket < n → (parse (take n t) ≡ parse t) × (seconds_of (take n t) ≡ seconds_of t)
front_settles n t long = (front.settled n t long, front.seconds_settled n t long)

-- Request 2026-07: "192 passes and 193 gives 5": a pool figure of 1 to 192 is never refused by 5, whatever else the text has.
pub pool_passes : (t : List ℕ) → Within 192 (pool_of t) → parse t ≡ refused 5 → ⊥
pool_passes t w e = ⊎_elim (λ l. omega (arith, l, w.0)) (λ l. omega (arith, l, w.1)) (reader.pool_outside t e)

-- "Filed tickets asking for more get 5 too": every text without a ground of 1 to 4, of either edition and whatever follows its pool figure.
pub pool_over :
    (t : List ℕ) → Line t 0 header_digits → Known (edition_of t) → mode_of t ≤ mode_save_and_keep → Within max_cards (cards_of t)
    → 192 < pool_of t → parse t ≡ refused 5
pool_over t l e m c over = parse_only t (refused 5) (row5 l e m c (inr over))

-- "Edition 01 is read as before": its lines are refused by 7 and 8 alone, and have 3 bytes.
pub edition_1_lines :
    (s : List ℕ) (cards i : ℕ)
    → line_fault edition1 s cards i ≡ cond (is_line s (3 * i) 2) (cond (ltb (number s (3 * i) 2) cards) 0 8) 7
edition_1_lines = editions.first

-- "each frame line has 10 digits, the card (2) and the capture second (8)": the lines of edition 02.
pub edition_2_lines :
    (s : List ℕ) (i : ℕ) → (card_at edition2 s i ≡ number s (11 * i) 2) × (second_at edition2 s i ≡ number s (11 * i + 2) 8)
edition_2_lines = editions.second

module _ (t : List ℕ) (h : Header) (cards : List ℕ) (e : parse t ≡ accepted h cards) where
  -- The values of an accepted ticket are within the limits.
  pub accepted_fits : Fits h cards
  accepted_fits = accepting.fits t h cards e

  -- Its pool is one of 1 to 192 buffers.
  pub accepted_pool : (1 ≤ h.pool) × (h.pool ≤ 192)
  accepted_pool = accepted_fits.pool

  -- It has no more frames than the limit.
  pub accepted_few : length cards ≤ max_frames
  accepted_few = rw accepted_fits.frames accepted_fits.few

  -- It has a second for each frame in edition 02 and none in edition 01, and they do not fall.
  pub accepted_seconds : SecondsFit h.edition (length cards) (seconds_of t)
  accepted_seconds = seconds.seconds_fit t h cards e

  -- Its text is its header and a line for each frame, and no byte more.
  pub accepted_length : length t ≡ header_bytes + line_bytes h.edition * length cards
  accepted_length = accepting.text_length t h cards e

  -- That is at most 15 + 11 × 4,096 bytes, which are 45,071.
  pub accepted_longest : length t ≤ longest_ticket
  accepted_longest = accepting.not_longer t h cards e

  -- Its text, in upper case, is the one that its values are written as.
  pub accepted_text : ticket_text h cards (seconds_of t) ≡ upper_case t
  accepted_text = writing.written t h cards e

  -- The line handed back for a position is the caller's own bytes, in the case that they have ..
  pub line_own : (p : ℕ) → p < length cards → line_of t p ≡ line_in t p
  unfolding line_of
  line_own p l = rw (e, lt-ltb p (length cards) l)

  -- .. and in upper case they are that frame's card in 2 digits and, in edition 02, its second in 8.
  pub line_card : (p : ℕ) → p < length cards → upper_case (line_of t p) ≡ line_text h.edition (card_of cards p) (second_of (seconds_of t) p)
  line_card = writing.line_back_at t h cards e

  -- Memory that it is read into then has its cards at the front, and later places as they were.
  pub accepted_memory : (memory : List ℕ) → read_into t memory ≡ written cards memory
  accepted_memory memory = memories.into_accepted t memory h cards e ∙ ap (λ (n : ℕ). cards ++ drop n memory) (sym accepted_fits.frames)

-- Values within the limits, written as a ticket, are accepted as what they are, and their seconds with them.
pub written_accepted :
    (h : Header) (cards seconds : List ℕ) → Fits h cards → SecondsFit h.edition (length cards) seconds
    → (parse (ticket_text h cards seconds) ≡ accepted h cards) × (seconds_of (ticket_text h cards seconds) ≡ seconds)
written_accepted h cards seconds f g = (again.accepted_again h cards seconds f g, again.seconds_again h cards seconds f g)

-- In edition 01 there are no seconds to write.
pub written_edition_1 : (h : Header) (cards : List ℕ) → h.edition ≡ edition1 → Fits h cards → parse (ticket_text h cards []) ≡ accepted h cards
written_edition_1 h cards e f = (written_accepted h cards [] f (rw e (seconds.none_fit (length cards)))).0

-- "A digit now has its value in either case, also mixed within a line": every text is read as its upper-case text is. It is accepted exactly
-- when that one is, with the same values, and otherwise refused by the same number.
pub either_case : (t : List ℕ) → (parse (upper_case t) ≡ parse t) × (seconds_of (upper_case t) ≡ seconds_of t)
either_case t = (cases.read_upper t, cases.seconds_upper t)

-- Texts that differ in the case of their digits alone are read alike.
pub case_alone : (s t : List ℕ) → upper_case s ≡ upper_case t → (parse s ≡ parse t) × (seconds_of s ≡ seconds_of t)
case_alone s t e = (cases.read_alike s t e, cases.seconds_alike s t e)

-- And two texts that are accepted with the same values, the seconds among them, differ in the case of their digits alone.
pub same_values :
    (s t : List ℕ) (h : Header) (cards : List ℕ) → parse s ≡ accepted h cards → parse t ≡ accepted h cards → seconds_of s ≡ seconds_of t
    → upper_case s ≡ upper_case t
same_values s t h cards e f q = sym (accepted_text s h cards e) ∙ ap (ticket_text h cards) q ∙ accepted_text t h cards f
