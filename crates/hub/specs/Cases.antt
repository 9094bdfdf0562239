-- Cases of the hub, which proofs/Cases.antt proves by computing: the cards of some lists, and how tight the promise is. A pattern that is changed in a
-- definition and in its code alike is refused here. Answers to calls, the numbers of refusals among them, are in the table of crates/firmware.
-- Assumes nothing.
use Rattle.std.specs.Prelude.{ℕ, zero, suc, ◌+◌, ◌*◌, List, [], ◌∷◌, ◌++◌, length, replicate}
use Rattle.schedule.specs.Loads.{fullest}
use Rattle.header.specs.Limits.{mode_read, mode_save}
use Rattle.ticket.specs.Print.{ticket_for}
use Rattle.ticket.specs.Ticket.{parse}
use Rattle.planner.specs.Numbers.{numbers_of}
use Rattle.planner.specs.Plan.{plan_of}
use Rattle.hub.specs.Gather.{hub_cards}
use Rattle.hub.specs.Patterns.{hub_size}

-- what a hub, and a planner above it, are asked
pub data Asked : Type 0 where
  -- the cards of a list: the patterns of the cameras, and the camera of each frame
  cards_for : List ℕ → List ℕ → Asked
  -- the T of a read or a save of these cards, with a pool of so many buffers
  read_of : ℕ → List ℕ → List ℕ → Asked
  save_of : ℕ → List ℕ → List ℕ → Asked
  -- 8 × T of a read, and of a save, beside L + 7 × S
  read_share : ℕ → List ℕ → List ℕ → Asked
  save_share : ℕ → List ℕ → List ℕ → Asked

pub data Told : Type 0 where
  cards : List ℕ → Told
  -- T, beside the load of the fullest card
  takes : ℕ → ℕ → Told
  -- 8 × T, beside L + 7 × S
  share : ℕ → ℕ → Told

-- the T that `plan` answers for the edition 01 ticket of a list
abbrev planned : ℕ → ℕ → List ℕ → ℕ
planned mode pool list = (numbers_of (plan_of (parse (ticket_for mode pool list)) (length list))).cycles.0

abbrev to_take : ℕ → ℕ → List ℕ → Told
to_take mode pool list = takes (planned mode pool list) (fullest hub_size list)

abbrev to_share : ℕ → ℕ → List ℕ → List ℕ → Told
to_share mode pool chosen list = share (8 * planned mode pool list) (length list + 7 * length chosen)

abbrev pub told : Asked → Told
told (cards_for chosen cameras) = cards (hub_cards chosen cameras)
told (read_of pool chosen cameras) = to_take mode_read pool (hub_cards chosen cameras)
told (save_of pool chosen cameras) = to_take mode_save pool (hub_cards chosen cameras)
told (read_share pool chosen cameras) = to_share mode_read pool chosen (hub_cards chosen cameras)
told (save_share pool chosen cameras) = to_share mode_save pool chosen (hub_cards chosen cameras)

infix 70 ◌gives◌
pub data Case : Type 0 where
  ◌gives◌ : Asked → Told → Case

abbrev pub asked : Case → Asked
asked (a gives t) = a

abbrev pub expected : Case → Told
expected (a gives t) = t

-- n frames of camera 0, then n of camera 1, and so on, for S cameras
abbrev pub bursts : ℕ → ℕ → List ℕ
bursts n zero = []
bursts n (suc S) = bursts n S ++ replicate n S

-- S cameras with equal patterns
abbrev equal : ℕ → List ℕ
equal S = replicate S 0

-- "7 frames of each camera, then the 8th of each", and the other way round
abbrev pub last_apart : ℕ → List ℕ
last_apart S = bursts 7 S ++ bursts 1 S

abbrev pub first_apart : ℕ → List ℕ
first_apart S = bursts 1 S ++ bursts 7 S

abbrev pub card_cases : List Case
card_cases =
    -- one camera, for each pattern: place 0 again after place 7
    cards_for (0 ∷ []) (replicate 9 0) gives cards (0 ∷ 1 ∷ 2 ∷ 3 ∷ 4 ∷ 5 ∷ 6 ∷ 7 ∷ 0 ∷ [])
    ∷ cards_for (1 ∷ []) (replicate 9 0) gives cards (0 ∷ 3 ∷ 6 ∷ 1 ∷ 4 ∷ 7 ∷ 2 ∷ 5 ∷ 0 ∷ [])
    ∷ cards_for (2 ∷ []) (replicate 9 0) gives cards (0 ∷ 5 ∷ 2 ∷ 7 ∷ 4 ∷ 1 ∷ 6 ∷ 3 ∷ 0 ∷ [])
    ∷ cards_for (3 ∷ []) (replicate 9 0) gives cards (0 ∷ 7 ∷ 6 ∷ 5 ∷ 4 ∷ 3 ∷ 2 ∷ 1 ∷ 0 ∷ [])
    ∷ cards_for (4 ∷ []) (replicate 9 0) gives cards (4 ∷ 5 ∷ 6 ∷ 7 ∷ 0 ∷ 1 ∷ 2 ∷ 3 ∷ 4 ∷ [])
    ∷ cards_for (5 ∷ []) (replicate 9 0) gives cards (4 ∷ 7 ∷ 2 ∷ 5 ∷ 0 ∷ 3 ∷ 6 ∷ 1 ∷ 4 ∷ [])
    ∷ cards_for (6 ∷ []) (replicate 9 0) gives cards (4 ∷ 1 ∷ 6 ∷ 3 ∷ 0 ∷ 5 ∷ 2 ∷ 7 ∷ 4 ∷ [])
    ∷ cards_for (7 ∷ []) (replicate 9 0) gives cards (4 ∷ 3 ∷ 2 ∷ 1 ∷ 0 ∷ 7 ∷ 6 ∷ 5 ∷ 4 ∷ [])
    -- two cameras: each goes on in its own pattern
    ∷ cards_for (0 ∷ 4 ∷ []) (0 ∷ 0 ∷ 0 ∷ 1 ∷ 0 ∷ 1 ∷ 1 ∷ 0 ∷ 0 ∷ 1 ∷ 1 ∷ 1 ∷ [])
    gives cards (0 ∷ 1 ∷ 2 ∷ 4 ∷ 3 ∷ 5 ∷ 6 ∷ 4 ∷ 5 ∷ 7 ∷ 0 ∷ 1 ∷ [])
    -- no frames
    ∷ cards_for (0 ∷ []) [] gives cards []
    ∷ []

-- How tight the promise is.
abbrev pub tight_cases : List Case
tight_cases =
    -- A pool of 7 × S is not always enough: with equal patterns a save takes one cycle more than the fullest card has frames,
    save_of 7 (equal 1) (last_apart 1) gives takes 2 1
    ∷ save_of 14 (equal 2) (last_apart 2) gives takes 3 2
    ∷ save_of 21 (equal 3) (last_apart 3) gives takes 4 3
    ∷ save_of 28 (equal 4) (last_apart 4) gives takes 5 4
    ∷ save_of 35 (equal 5) (last_apart 5) gives takes 6 5
    ∷ save_of 42 (equal 6) (last_apart 6) gives takes 7 6
    -- and a read, from the other end.
    ∷ read_of 7 (equal 1) (first_apart 1) gives takes 2 1
    ∷ read_of 14 (equal 2) (first_apart 2) gives takes 3 2
    ∷ read_of 21 (equal 3) (first_apart 3) gives takes 4 3
    ∷ read_of 28 (equal 4) (first_apart 4) gives takes 5 4
    ∷ read_of 35 (equal 5) (first_apart 5) gives takes 6 5
    ∷ read_of 42 (equal 6) (first_apart 6) gives takes 7 6
    -- With one buffer more it takes that load.
    ∷ save_of 8 (equal 1) (last_apart 1) gives takes 1 1
    ∷ save_of 43 (equal 6) (last_apart 6) gives takes 6 6
    ∷ read_of 8 (equal 1) (first_apart 1) gives takes 1 1
    ∷ read_of 43 (equal 6) (first_apart 6) gives takes 6 6
    -- 8 × T = L + 7 × S is met: one frame of each camera with equal patterns, all on one card; also with 8 frames more of each
    ∷ save_share 8 (equal 1) (bursts 1 1) gives share 8 8
    ∷ save_share 15 (equal 2) (bursts 1 2) gives share 16 16
    ∷ read_share 15 (equal 2) (bursts 1 2) gives share 16 16
    ∷ save_share 15 (equal 2) (bursts 9 2) gives share 32 32
    ∷ read_share 43 (equal 6) (bursts 1 6) gives share 48 48
    ∷ []
