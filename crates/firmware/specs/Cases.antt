-- The rows of document 01's refusal table, with those of the requests since, and answers that are no refusal: a call, its input, and the whole
-- answer in plain numbers.
-- proofs/Cases.antt proves them by computing. So a number that is changed in a definition and in its code alike is refused here.
-- Assumes nothing.
use Rattle.std.specs.Prelude.{ℕ, ◌-◌, Bool, true, false, List, [], ◌∷◌, ◌++◌, replicate}
use Rattle.counting.specs.declared.Position.{Position}
use Rattle.header.specs.Limits.{max_pool}
use Rattle.ticket.specs.Print.{header_text, ticket_text}
use Rattle.saver.specs.declared.Saver.{Saver}
use Rattle.dock.specs.declared.Dock.{Dock}
use Rattle.dock.specs.declared.Step.TheVariants.{Read, End}
use Rattle.firmware.specs.Calls.{Call, parse_ticket, plan_ticket, print_plan, join_first, join_second, gather, check_plan, run_plan, line, counts}
use Rattle.firmware.specs.Calls.{new_saver, save, close, start_dock, drive_dock}
use Rattle.firmware.specs.Calls.{Result, ticket, plan, text, joined_ticket, gathered, verdict, run, part, card_counts, saved, dock}

infix 70 ◌gives◌
pub data Case : Type 0 where
  ◌gives◌ : Call → Result → Case

abbrev pub call : Case → Call
call (c gives r) = c

abbrev pub expected : Case → Result
expected (c gives r) = r

-- a ticket: edition, mode, cards, pool and frames as they stand in the header, and the cards and seconds of its lines
abbrev ticket_with : ℕ → ℕ → ℕ → ℕ → ℕ → List ℕ → List ℕ → List ℕ
ticket_with edition mode cards pool frames list seconds =
    ticket_text (record { edition = edition; mode = mode; cards = cards; pool = pool; frames = frames }) list seconds

-- one without seconds
abbrev ticket_of : ℕ → ℕ → ℕ → ℕ → ℕ → List ℕ → List ℕ
ticket_of edition mode cards pool frames list = ticket_with edition mode cards pool frames list []

-- document 01's example, list 0 0 1 with a pool of 2: read, save, save and keep
abbrev read001 : List ℕ
read001 = ticket_of 1 0 2 2 3 (0 ∷ 0 ∷ 1 ∷ [])

abbrev save001 : List ℕ
save001 = ticket_of 1 1 2 2 3 (0 ∷ 0 ∷ 1 ∷ [])

abbrev keep001 : List ℕ
keep001 = ticket_of 1 2 2 2 3 (0 ∷ 0 ∷ 1 ∷ [])

-- the read ticket in edition 02, with seconds 7, 7 and the highest
abbrev timed001 : List ℕ
timed001 = ticket_with 2 0 2 2 3 (0 ∷ 0 ∷ 1 ∷ []) (7 ∷ 7 ∷ 4294967295 ∷ [])

-- edition 02 tickets without frames: mode, cards and pool
abbrev timed_none : ℕ → ℕ → ℕ → List ℕ
timed_none mode cards pool = ticket_with 2 mode cards pool 0 [] []

abbrev position : ℕ → Position
position i = record { 0 = i }

-- a saver's record: cards, pool, frames taken, cycles made, closing begun, how many frames wait, and the two tables
abbrev saver : ℕ → ℕ → ℕ → ℕ → Bool → ℕ → List ℕ → List Position → Saver
saver cards pool taken made closing waiting card positions =
    record {
      cards = cards;
      pool = pool;
      taken = taken;
      made = record { 0 = made };
      waiting = waiting;
      closing = closing;
      card = card;
      position = positions;
    }

-- one with no frame waiting
abbrev idle : ℕ → ℕ → ℕ → ℕ → Bool → Saver
idle cards pool taken made closing = saver cards pool taken made closing 0 (replicate max_pool 0) (replicate max_pool (position 0))

-- and one of two cards and a pool of 2 that has taken a frame, on this card
abbrev with_first : ℕ → Saver
with_first card = saver 2 2 1 0 false 1 (card ∷ replicate (max_pool - 1) 0) (replicate max_pool (position 0))

-- "the record that comes with such a refusal has one card, a pool of 1, nothing taken or waiting, and closing begun"
abbrev refused_saver : Saver
refused_saver = idle 1 1 0 0 true

-- no card writes
abbrev nothing : List ℕ
nothing = replicate 32 65535

-- a dock's record: frames, pool, delivered, held, cycles ended, broken off, any card has read, which
abbrev dock_of : ℕ → ℕ → ℕ → ℕ → ℕ → Bool → Bool → List Bool → Dock
dock_of frames pool delivered holding ended broken reading busy =
    record {
      frames = frames;
      pool = pool;
      delivered = delivered;
      holding = holding;
      ended = ended;
      broken = broken;
      reading = reading;
      busy = busy;
    }

abbrev empty_dock : ℕ → ℕ → Dock
empty_dock frames pool = dock_of frames pool 0 0 0 false false (replicate 32 false)

abbrev pub cases : List Case
cases =
    -- 1: the first 15 bytes are not 14 digits and an end byte; other numbers are 0, the counts too, and lent memory is unchanged
    parse_ticket [] gives ticket 1 0 0 0 0 0
    ∷ plan_ticket [] (9 ∷ []) gives plan 1 0 (9 ∷ [])
    ∷ check_plan [] [] gives verdict 1 0 0 0 0
    ∷ run_plan [] [] gives run 1 false false 0 0 0 0
    ∷ line [] 0 gives part 0 0 1
    ∷ counts [] gives card_counts 1 (replicate 32 0)
    ∷ start_dock [] (7 ∷ []) gives dock 1 (empty_dock 0 0) (7 ∷ [])
    -- printed: FF01, if there is room for it
    ∷ print_plan [] (9 ∷ 9 ∷ 9 ∷ 9 ∷ 9 ∷ 9 ∷ []) gives text 5 (70 ∷ 70 ∷ 48 ∷ 49 ∷ 10 ∷ 9 ∷ [])
    ∷ print_plan [] (9 ∷ 9 ∷ 9 ∷ 9 ∷ []) gives text 0 (9 ∷ 9 ∷ 9 ∷ 9 ∷ [])
    -- 2: edition is neither 01 nor 02
    ∷ parse_ticket (ticket_of 0 0 2 2 0 []) gives ticket 2 0 0 0 0 0
    ∷ parse_ticket (ticket_of 3 0 2 2 0 []) gives ticket 2 0 0 0 0 0
    -- 3: mode is over 02
    ∷ parse_ticket (ticket_of 1 3 2 2 0 []) gives ticket 3 0 0 0 0 0
    -- 4: cards not 1 to 32
    ∷ parse_ticket (ticket_of 1 0 33 2 0 []) gives ticket 4 0 0 0 0 0
    ∷ new_saver 33 0 gives saved 4 0 nothing refused_saver
    -- 5: pool not 1 to 192. The largest that passes, the next, 1,024, which passed before 2026-07, the next, and the largest that can be written
    ∷ parse_ticket (ticket_of 1 0 2 192 0 []) gives ticket 0 1 0 2 192 0
    ∷ parse_ticket (ticket_of 1 0 2 193 0 []) gives ticket 5 0 0 0 0 0
    ∷ parse_ticket (ticket_of 1 0 2 1024 0 []) gives ticket 5 0 0 0 0 0
    ∷ parse_ticket (ticket_of 1 0 2 1025 0 []) gives ticket 5 0 0 0 0 0
    ∷ parse_ticket (ticket_of 1 0 2 65535 0 []) gives ticket 5 0 0 0 0 0
    ∷ new_saver 32 192 gives saved 0 0 nothing (idle 32 192 0 0 false)
    ∷ new_saver 32 193 gives saved 5 0 nothing refused_saver
    ∷ new_saver 32 1024 gives saved 5 0 nothing refused_saver
    ∷ new_saver 32 65535 gives saved 5 0 nothing refused_saver
    -- 6: frames over 4,096
    ∷ parse_ticket (ticket_of 1 0 2 2 4097 []) gives ticket 6 0 0 0 0 0
    -- or those of a list for the hub
    ∷ gather (0 ∷ []) (replicate 4097 0) (9 ∷ []) gives gathered 6 0 (9 ∷ [])
    -- 7: a frame line is missing
    ∷ parse_ticket (ticket_of 1 0 2 2 1 []) gives ticket 7 0 0 0 0 0
    -- or has the digits of the other edition: the header decides
    ∷ parse_ticket (header_text (record { edition = 2; mode = 0; cards = 2; pool = 2; frames = 1 }) ++ (48 ∷ 48 ∷ 10 ∷ [])) gives ticket 7 0 0 0 0 0
    ∷ parse_ticket
    (header_text (record { edition = 1; mode = 0; cards = 2; pool = 2; frames = 1 })
    ++ (48 ∷ 48 ∷ 48 ∷ 48 ∷ 48 ∷ 48 ∷ 48 ∷ 48 ∷ 48 ∷ 48 ∷ 10 ∷ []))
    gives ticket 7 0 0 0 0 0
    -- 8: a card number is not below cards
    ∷ parse_ticket (ticket_of 1 0 2 2 1 (2 ∷ [])) gives ticket 8 0 0 0 0 0
    ∷ save (idle 2 2 0 0 false) 2 gives saved 8 0 nothing (idle 2 2 0 0 false)
    -- 17, after 8 of the same line: a second is lower than that of the line before
    ∷ parse_ticket (ticket_with 2 0 2 2 2 (0 ∷ 1 ∷ []) (65536 ∷ 65535 ∷ [])) gives ticket 17 0 0 0 0 0
    ∷ parse_ticket (ticket_with 2 0 2 2 2 (0 ∷ 2 ∷ []) (65536 ∷ 65535 ∷ [])) gives ticket 8 0 0 0 0 0
    ∷ plan_ticket (ticket_with 2 0 2 2 2 (0 ∷ 1 ∷ []) (1 ∷ 0 ∷ [])) (9 ∷ 9 ∷ []) gives plan 17 0 (9 ∷ 9 ∷ [])
    -- 9: bytes follow the last line
    ∷ parse_ticket (ticket_of 1 0 2 2 0 (0 ∷ [])) gives ticket 9 0 0 0 0 0
    ∷ parse_ticket (ticket_with 2 0 2 2 0 (0 ∷ []) (0 ∷ [])) gives ticket 9 0 0 0 0 0
    -- 10: plan buffer, or memory for the dock, has fewer than L places
    ∷ plan_ticket read001 (9 ∷ 9 ∷ []) gives plan 10 0 (9 ∷ 9 ∷ [])
    ∷ start_dock read001 (7 ∷ 7 ∷ []) gives dock 10 (empty_dock 0 0) (7 ∷ 7 ∷ [])
    ∷ drive_dock (empty_dock 3 2) (0 ∷ 0 ∷ []) End gives dock 10 (empty_dock 3 2) (0 ∷ 0 ∷ [])
    -- or a joined ticket has no room, after 18
    ∷ join_first (timed_none 0 2 2) (timed_none 0 2 2) (replicate 14 9) gives joined_ticket 10 0 (replicate 14 9)
    ∷ join_first (timed_none 0 2 2) (timed_none 0 2 3) (replicate 14 9) gives joined_ticket 18 0 (replicate 14 9)
    -- or the hub's buffer is shorter than its list
    ∷ gather (0 ∷ 4 ∷ []) (0 ∷ 1 ∷ []) (9 ∷ []) gives gathered 10 0 (9 ∷ [])
    -- 11: a plan that is checked or run has not exactly L cycles
    ∷ check_plan read001 (1 ∷ 2 ∷ []) gives verdict 11 0 0 0 0
    ∷ run_plan read001 (1 ∷ 2 ∷ []) gives run 11 false false 0 0 0 0
    -- 12, before 11: the checker is given mode 02
    ∷ check_plan keep001 (1 ∷ 2 ∷ []) gives verdict 12 0 0 0 0
    -- 13: the saver has taken 4,096 frames
    ∷ save (idle 2 2 4096 9 false) 1 gives saved 13 0 nothing (idle 2 2 4096 9 false)
    -- 14: a closing cycle with an empty pool
    ∷ close (idle 2 2 0 0 false) gives saved 14 0 nothing (idle 2 2 0 0 false)
    -- 15, before 8: a save after closing has begun
    ∷ save refused_saver 1 gives saved 15 0 nothing refused_saver
    -- 16: a line is wanted at a position not below L
    ∷ line read001 3 gives part 0 0 16
    -- 18: a ticket to join is not edition 02, is not a read, or cards or pool differ
    ∷ join_first read001 timed001 (replicate 81 9) gives joined_ticket 18 0 (replicate 81 9)
    ∷ join_second read001 timed001 (replicate 81 9) gives joined_ticket 18 0 (replicate 81 9)
    ∷ join_first (timed_none 1 2 2) (timed_none 0 2 2) (replicate 15 9) gives joined_ticket 18 0 (replicate 15 9)
    ∷ join_first (timed_none 0 2 2) (timed_none 2 2 2) (replicate 15 9) gives joined_ticket 18 0 (replicate 15 9)
    ∷ join_first (timed_none 0 2 2) (timed_none 0 3 2) (replicate 15 9) gives joined_ticket 18 0 (replicate 15 9)
    -- before it each ticket's own, the first ticket's before the second's (19 is in the table of crates/join)
    ∷ join_first [] (ticket_of 3 0 2 2 0 []) [] gives joined_ticket 1 0 []
    ∷ join_second [] (ticket_of 3 0 2 2 0 []) [] gives joined_ticket 2 0 []
    ∷ join_second [] timed001 [] gives joined_ticket 1 0 []
    -- 20: the hub has no camera, more than 6, or a pattern over 7
    ∷ gather [] [] (9 ∷ []) gives gathered 20 0 (9 ∷ [])
    ∷ gather (replicate 7 0) [] (9 ∷ []) gives gathered 20 0 (9 ∷ [])
    ∷ gather (0 ∷ 8 ∷ []) [] (9 ∷ []) gives gathered 20 0 (9 ∷ [])
    -- 21: a camera number is not below their count
    ∷ gather (0 ∷ 4 ∷ []) (0 ∷ 2 ∷ []) (9 ∷ 9 ∷ []) gives gathered 21 0 (9 ∷ 9 ∷ [])
    -- in the order 20, 6, 21, 10
    ∷ gather (8 ∷ []) (replicate 4097 1) [] gives gathered 20 0 []
    ∷ gather (0 ∷ []) (replicate 4097 1) [] gives gathered 6 0 []
    ∷ gather (0 ∷ []) (replicate 4096 1) [] gives gathered 21 0 []
    -- no refusal: what stands in the header, a plan, a line, counts
    ∷ parse_ticket read001 gives ticket 0 1 0 2 2 3
    ∷ plan_ticket read001 (9 ∷ 9 ∷ 9 ∷ 9 ∷ []) gives plan 0 2 (1 ∷ 2 ∷ 2 ∷ 9 ∷ [])
    ∷ line read001 1 gives part 18 2 0
    ∷ counts read001 gives card_counts 0 (2 ∷ 1 ∷ replicate 30 0)
    -- the same in edition 02, whose seconds may repeat
    ∷ parse_ticket timed001 gives ticket 0 2 0 2 2 3
    ∷ plan_ticket timed001 (9 ∷ 9 ∷ 9 ∷ 9 ∷ []) gives plan 0 2 (1 ∷ 2 ∷ 2 ∷ 9 ∷ [])
    ∷ line timed001 1 gives part 26 10 0
    ∷ counts timed001 gives card_counts 0 (2 ∷ 1 ∷ replicate 30 0)
    -- joined: at equal seconds the first ticket's frames go before the second's, an earlier second before a later one; later places are kept
    ∷ join_first timed001 (ticket_with 2 0 2 2 2 (1 ∷ 1 ∷ []) (6 ∷ 7 ∷ [])) (replicate 72 9)
    gives joined_ticket 0 70 (ticket_with 2 0 2 2 5 (1 ∷ 0 ∷ 0 ∷ 1 ∷ 1 ∷ []) (6 ∷ 7 ∷ 7 ∷ 7 ∷ 4294967295 ∷ []) ++ (9 ∷ 9 ∷ []))
    -- two tickets without frames: their header
    ∷ join_first (timed_none 0 2 2) (timed_none 0 2 2) (replicate 16 9) gives joined_ticket 0 15 (timed_none 0 2 2 ++ (9 ∷ []))
    -- byte by byte: `02001000020001`, `0b0000000a` joined with `0A0000000A` is written in upper case
    ∷ join_first
    (48 ∷ 50 ∷ 48 ∷ 48 ∷ 49 ∷ 48 ∷ 48 ∷ 48 ∷ 48 ∷ 50 ∷ 48 ∷ 48 ∷ 48 ∷ 49 ∷ 10
    ∷ 48 ∷ 98 ∷ 48 ∷ 48 ∷ 48 ∷ 48 ∷ 48 ∷ 48 ∷ 48 ∷ 97 ∷ 10 ∷ [])
    (ticket_with 2 0 16 2 1 (10 ∷ []) (10 ∷ []))
    (replicate 37 9)
    gives
    joined_ticket 0 37
    (48 ∷ 50 ∷ 48 ∷ 48 ∷ 49 ∷ 48 ∷ 48 ∷ 48 ∷ 48 ∷ 50 ∷ 48 ∷ 48 ∷ 48 ∷ 50 ∷ 10
    ∷ 48 ∷ 66 ∷ 48 ∷ 48 ∷ 48 ∷ 48 ∷ 48 ∷ 48 ∷ 48 ∷ 65 ∷ 10
    ∷ 48 ∷ 65 ∷ 48 ∷ 48 ∷ 48 ∷ 48 ∷ 48 ∷ 48 ∷ 48 ∷ 65 ∷ 10 ∷ [])
    -- gathered: two cameras on patterns 0 and 4, one camera that comes round, six cameras and the last pattern, and no frames; later places are kept
    ∷ gather (0 ∷ 4 ∷ []) (0 ∷ 1 ∷ 0 ∷ []) (9 ∷ 9 ∷ 9 ∷ 9 ∷ []) gives gathered 0 3 (0 ∷ 4 ∷ 1 ∷ 9 ∷ [])
    ∷ gather (1 ∷ []) (replicate 9 0) (replicate 10 9) gives gathered 0 9 (0 ∷ 3 ∷ 6 ∷ 1 ∷ 4 ∷ 7 ∷ 2 ∷ 5 ∷ 0 ∷ 9 ∷ [])
    ∷ gather (0 ∷ 1 ∷ 2 ∷ 3 ∷ 4 ∷ 7 ∷ []) (5 ∷ 5 ∷ []) (9 ∷ 9 ∷ []) gives gathered 0 2 (4 ∷ 3 ∷ [])
    ∷ gather (7 ∷ []) [] (9 ∷ []) gives gathered 0 0 (9 ∷ [])
    -- digits in either case: `01001f00be0000`, `01001d00ac0000`; and g, which is none: `010002000g0000`
    ∷ parse_ticket (48 ∷ 49 ∷ 48 ∷ 48 ∷ 49 ∷ 102 ∷ 48 ∷ 48 ∷ 98 ∷ 101 ∷ 48 ∷ 48 ∷ 48 ∷ 48 ∷ 10 ∷ []) gives ticket 0 1 0 31 190 0
    ∷ parse_ticket (48 ∷ 49 ∷ 48 ∷ 48 ∷ 49 ∷ 100 ∷ 48 ∷ 48 ∷ 97 ∷ 99 ∷ 48 ∷ 48 ∷ 48 ∷ 48 ∷ 10 ∷ []) gives ticket 0 1 0 29 172 0
    ∷ parse_ticket (48 ∷ 49 ∷ 48 ∷ 48 ∷ 48 ∷ 50 ∷ 48 ∷ 48 ∷ 48 ∷ 103 ∷ 48 ∷ 48 ∷ 48 ∷ 48 ∷ 10 ∷ []) gives ticket 1 0 0 0 0 0
    -- the verdicts: 1 valid, 2 cycle 0, 3 a shared card, 4 too many in the pool
    ∷ check_plan read001 (1 ∷ 2 ∷ 1 ∷ []) gives verdict 0 1 0 2 2
    ∷ check_plan read001 (1 ∷ 2 ∷ 2 ∷ []) gives verdict 0 1 0 2 2
    ∷ check_plan save001 (1 ∷ 2 ∷ 2 ∷ []) gives verdict 0 1 0 2 0
    ∷ check_plan read001 (1 ∷ 2 ∷ 0 ∷ []) gives verdict 0 2 2 0 0
    ∷ check_plan read001 (1 ∷ 1 ∷ 2 ∷ []) gives verdict 0 3 1 0 0
    ∷ check_plan read001 (2 ∷ 1 ∷ 2 ∷ []) gives verdict 0 4 0 0 0
    -- runs: complete; broken off at a read, and at an end, which finds 3 held; and one that leaves a frame out
    ∷ run_plan read001 (1 ∷ 2 ∷ 1 ∷ []) gives run 0 false true 3 2 2 2
    ∷ run_plan read001 (1 ∷ 1 ∷ 2 ∷ []) gives run 0 true false 0 0 0 0
    ∷ run_plan read001 (2 ∷ 1 ∷ 2 ∷ []) gives run 0 true false 0 1 0 3
    ∷ run_plan read001 (0 ∷ 1 ∷ 2 ∷ []) gives run 0 false false 0 2 0 2
    -- a saver: new; a frame on card 1; and the closing cycle that writes it
    ∷ new_saver 2 2 gives saved 0 0 nothing (idle 2 2 0 0 false)
    ∷ save (idle 2 2 0 0 false) 1 gives saved 0 0 nothing (with_first 1)
    ∷ close (with_first 1)
    gives saved 0 1 (65535 ∷ 0 ∷ replicate 30 65535) (idle 2 2 1 1 true)
    -- a dock: started; a read; a step against the rules, which is no refusal
    ∷ start_dock read001 (7 ∷ 7 ∷ 7 ∷ 7 ∷ []) gives dock 0 (empty_dock 3 2) (0 ∷ 0 ∷ 1 ∷ 7 ∷ [])
    ∷ drive_dock (empty_dock 3 2) (0 ∷ 0 ∷ 1 ∷ 7 ∷ []) (Read (position 2))
    gives dock 0 (dock_of 3 2 0 1 0 false true (false ∷ true ∷ replicate 30 false)) (0 ∷ 0 ∷ 129 ∷ 7 ∷ [])
    ∷ drive_dock (empty_dock 3 2) (0 ∷ 0 ∷ 1 ∷ 7 ∷ []) (Read (position 3))
    gives dock 0 (dock_of 3 2 0 0 0 true false (replicate 32 false)) (0 ∷ 0 ∷ 1 ∷ 7 ∷ [])
    ∷ []
