-- The table "Grounds for turning a ticket or call down" of document 01 and of request 2026-02 for a ticket, row by row, in plain conditions.
-- `Says t a` is that the table, read in its order, answers the text t with a. It is proved that `parse` gives this answer and no other.
-- Assumes nothing.
use Rattle.std.specs.Prelude.{ℕ, ◌*◌, ◌≤◌, ◌<◌, ◌≡◌, List, ◌⊎◌, length, take, drop}
use Rattle.counting.specs.Count.{tabulate}
use Rattle.counting.specs.Frames.{card_of}
use Rattle.text.specs.Text.{Line}
use Rattle.header.specs.Editions.{edition2, Known, line_digits, line_bytes}
use Rattle.header.specs.Heading.{header_digits, header_bytes, header_of, edition_of}
use Rattle.header.specs.Limits.{Within, Outside, mode_save_and_keep, max_cards, max_pool, max_frames}
use Rattle.frame_lines.specs.Lines.{card_at, second_at, second_before}
use Rattle.ticket.specs.Ticket.{Parsed, accepted, refused, parse}
use Rattle.header.specs.declared.Header.{Header}
use Rattle.std.specs.Prelude.{Result, Ok, Err}

module _ (t : List ℕ) where
  -- what stands in the header
  abbrev pub mode_of : ℕ
  mode_of = (header_of t).mode

  abbrev pub cards_of : ℕ
  cards_of = (header_of t).cards

  abbrev pub pool_of : ℕ
  pool_of = (header_of t).pool

  abbrev pub frames_of : ℕ
  frames_of = (header_of t).frames

  -- "the part of the ticket that starts after its header"
  abbrev pub part : List ℕ
  part = drop header_bytes t

  -- none of the grounds 1 to 6
  pub record HeaderPasses : Type 0 where
    pub line : Line t 0 header_digits
    pub edition : Known (edition_of t)
    pub mode : mode_of ≤ mode_save_and_keep
    pub cards : Within max_cards cards_of
    pub pool : Within max_pool pool_of
    pub frames : frames_of ≤ max_frames

  -- what is read at line i: whether it is a line of the header's edition, its card, its second, and the second of the line before
  abbrev pub LineAt : ℕ → Type 0
  LineAt i = Line part (line_bytes (edition_of t) * i) (line_digits (edition_of t))

  abbrev pub card : ℕ → ℕ
  card i = card_at (edition_of t) part i

  abbrev pub second : ℕ → ℕ
  second i = second_at (edition_of t) part i

  abbrev pub before : ℕ → ℕ
  before i = second_before (edition_of t) part i

  -- none of the grounds 7, 8 and 17 at line i
  pub record LinePasses (i : ℕ) : Type 0 where
    pub line : LineAt i
    pub its_card : card i < cards_of
    pub its_second : before i ≤ second i

  -- nor at any of the first n lines
  abbrev pub LinesPass : ℕ → Type 0
  LinesPass n = (i : ℕ) → i < n → LinePasses i

  -- The rows, each with what must not have been met before it.
  pub data Says : Parsed → Type 0 where
    -- "the first 15 bytes are not 14 digits and an end byte"
    row1 : (Line t 0 header_digits → ⊥) → Says (refused 1)
    -- "neither 01 nor 02"
    row2 : Line t 0 header_digits → (Known (edition_of t) → ⊥) → Says (refused 2)
    -- "mode is over 02"
    row3 : Line t 0 header_digits → Known (edition_of t) → mode_save_and_keep < mode_of → Says (refused 3)
    -- "cards not 1 to 32"
    row4 : Line t 0 header_digits → Known (edition_of t) → mode_of ≤ mode_save_and_keep → Outside max_cards cards_of → Says (refused 4)
    -- "pool not 1 to" 192, since request 2026-07
    row5 :
        Line t 0 header_digits → Known (edition_of t) → mode_of ≤ mode_save_and_keep → Within max_cards cards_of → Outside max_pool pool_of
        → Says (refused 5)
    -- "frames over 4,096"
    row6 :
        Line t 0 header_digits → Known (edition_of t) → mode_of ≤ mode_save_and_keep → Within max_cards cards_of → Within max_pool pool_of
        → max_frames < frames_of → Says (refused 6)
    -- "a frame line is missing or is not" the digits of its edition "and an end byte"
    row7 : HeaderPasses → (i : ℕ) → i < frames_of → LinesPass i → (LineAt i → ⊥) → Says (refused 7)
    -- "a card number is not below cards"
    row8 : HeaderPasses → (i : ℕ) → i < frames_of → LinesPass i → LineAt i → cards_of ≤ card i → Says (refused 8)
    -- "a second lower than the line before, after 7 and 8 of the same line"
    row17 : HeaderPasses → (i : ℕ) → i < frames_of → LinesPass i → LineAt i → card i < cards_of → second i < before i → Says (refused 17)
    -- "bytes follow the last line"
    row9 : HeaderPasses → LinesPass frames_of → line_bytes (edition_of t) * frames_of < length part → Says (refused 9)
    -- no ground
    none :
        HeaderPasses → LinesPass frames_of → length part ≤ line_bytes (edition_of t) * frames_of
        → Says (accepted (header_of t) (tabulate frames_of card))

-- The numbers that a ticket can be refused by: 1 to 9, and 17 in edition 02 alone.
abbrev pub TicketRefusal : List ℕ → ℕ → Type 0
TicketRefusal t k = Within 9 k ⊎ ((k ≡ 17) × (edition_of t ≡ edition2))

-- What holds of the values of an accepted ticket.
pub record Fits (h : Header) (cards : List ℕ) : Type 0 where
  pub edition : Known h.edition
  pub mode : h.mode ≤ mode_save_and_keep
  pub card_range : Within max_cards h.cards
  pub pool : Within max_pool h.pool
  pub frames : length cards ≡ h.frames
  pub few : h.frames ≤ max_frames
  pub each_card : (i : ℕ) → i < length cards → card_of cards i < h.cards

-- What a call that takes a ticket goes on with once it is read: the number of its refusal, or its header, with the list of cards beside it
-- at the front of lent memory.
pub record ReadAs (t : List ℕ) (answer : Result Header ℕ) (memory : List ℕ) : Type 0 where
  pub long : length memory ≡ max_frames
  pub refusal : (k : ℕ) → answer ≡ Err k → parse t ≡ refused k
  pub list : (h : Header) → answer ≡ Ok h → parse t ≡ accepted h (take h.frames memory)
  pub fits : (h : Header) → answer ≡ Ok h → Fits h (take h.frames memory)
