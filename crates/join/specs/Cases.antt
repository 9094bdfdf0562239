-- Two accepted tickets, as their headers and frames, and a buffer of so many places: what a join answers. proofs/Cases.antt proves the table by
-- computing. So a number or an order that is changed in a definition and in its code alike is refused here.
-- Assumes nothing.
use Rattle.std.specs.Prelude.{ℕ, List, [], ◌∷◌, replicate}
use Rattle.header.specs.declared.Header.{Header}
use Rattle.merged_lines.specs.Merge.{Frame}
use Rattle.join.specs.Join.{join_read, answer_of}
use Rattle.std.specs.Prelude.{Result, Ok, Err}

pub data Case : Type 0 where
  -- header and frames of the first ticket, of the second, the places of the buffer, and the answer
  case : Header → List Frame → Header → List Frame → ℕ → Result ℕ ℕ → Case

abbrev pub answered : Case → Result ℕ ℕ
answered (case g a h b places r) = answer_of (join_read g a h b) places

abbrev pub expected : Case → Result ℕ ℕ
expected (case g a h b places r) = r

-- edition, mode, cards and pool
abbrev header : ℕ → ℕ → ℕ → ℕ → Header
header edition mode cards pool = record { edition = edition; mode = mode; cards = cards; pool = pool; frames = 0 }

-- an edition 02 read of 2 cards and a pool of 3
abbrev timed : Header
timed = header 2 0 2 3

abbrev frame : Frame
frame = record { second = 7; card = 1 }

-- so many frames
abbrev many : ℕ → List Frame
many n = replicate n frame

abbrev pub cases : List Case
cases =
    -- 18: a ticket is not edition 02,
    case (header 1 0 2 3) [] timed [] 15 (Err 18)
    ∷ case timed [] (header 1 0 2 3) [] 15 (Err 18)
    -- is not a read,
    ∷ case (header 2 1 2 3) [] timed [] 15 (Err 18)
    ∷ case timed [] (header 2 2 2 3) [] 15 (Err 18)
    -- or cards or pool differ
    ∷ case timed [] (header 2 0 3 3) [] 15 (Err 18)
    ∷ case timed [] (header 2 0 2 4) [] 15 (Err 18)
    -- 19, after 18 and before 10: more than 4,096 frames together
    ∷ case timed (many 2048) (header 2 0 2 4) (many 2049) 0 (Err 18)
    ∷ case timed (many 2048) timed (many 2049) 0 (Err 19)
    -- 10, last: too few places for the result, which has 15 + 11 × L bytes
    ∷ case timed (many 2) (header 2 0 3 3) (many 1) 0 (Err 18)
    ∷ case timed (many 2) timed (many 1) 47 (Err 10)
    ∷ case timed (many 2) timed (many 1) 48 (Ok 48)
    ∷ case timed [] timed [] 14 (Err 10)
    ∷ case timed [] timed [] 15 (Ok 15)
    ∷ []
