-- Cameras gathered onto the hub's cards (request 2026-06): the cards of a list of frames, or the number of a refusal; what the call answers, and what it
-- leaves in the lent buffer.
--
-- `chosen` has the number of each camera's pattern, so it is as long as there are cameras; `cameras` has the camera of each frame, in list order.
-- Edge case: with no frames there is no card, and no refusal but 20.
-- Assumes nothing.
use Rattle.std.specs.Prelude.{ℕ, ◌%◌, ◌≡◌, Bool, ◌&&◌, cond, List, eqb, leb, ltb, length, get_or}
use Rattle.counting.specs.Count.{how_many, tabulate, largest, written}
use Rattle.header.specs.Limits.{max_frames}
use Rattle.hub.specs.Patterns.{hub_size, pattern_card}
use Rattle.std.specs.Prelude.{Result, Ok, Err}

-- "1 to 6 cameras"
abbrev pub max_cameras : ℕ
max_cameras = 6

-- the camera of frame i
abbrev pub camera_of : List ℕ → ℕ → ℕ
camera_of cameras i = get_or cameras i 0

-- how many of the first n frames are of camera q
abbrev pub taken : List ℕ → ℕ → ℕ → ℕ
taken cameras n q = how_many n (λ i. eqb (camera_of cameras i) q)

-- the pattern of camera q, by the card at each place
abbrev pub pattern_of : List ℕ → ℕ → ℕ → ℕ
pattern_of chosen q = pattern_card (get_or chosen q 0)

-- "Frame k of a camera, from 0, goes to place k mod 8 of that camera's pattern." Frame i of the list is frame k of its camera where k frames before it
-- are of that camera.
abbrev pub card_for : List ℕ → List ℕ → ℕ → ℕ
card_for chosen cameras i = pattern_of chosen (camera_of cameras i) (taken cameras i (camera_of cameras i) % hub_size)

-- the cards of a list
unfoldable pub hub_cards : List ℕ → List ℕ → List ℕ
hub_cards chosen cameras = tabulate (length cameras) (card_for chosen cameras)

-- The cards, or the number of a refusal.
pub data Outcome : Type 0 where
  gathered : List ℕ → Outcome
  turned_down : ℕ → Outcome

-- whether there are 1 to 6 cameras, each with a pattern from 0 to 7; where one pattern is above 7, the largest is
abbrev pub known_patterns : List ℕ → Bool
known_patterns chosen = (leb 1 (length chosen) && leb (length chosen) max_cameras) && ltb (largest chosen) hub_size

-- What a list comes to, with a buffer of so many places: "20 for a camera count not 1 to 6 or a pattern not 0 to 7, first of all"; "Lists over 4,096 give
-- 6"; "21 for a camera number not below the count, after 6": where one is not below it, the largest is not; "a short buffer 10 and last".
unfoldable pub gather_of : List ℕ → List ℕ → ℕ → Outcome
gather_of chosen cameras places =
    cond (known_patterns chosen)
    (cond (ltb max_frames (length cameras)) (turned_down 6)
    (cond (leb (length chosen) (largest cameras)) (turned_down 21)
    (cond (ltb places (length cameras)) (turned_down 10)
    (gathered (hub_cards chosen cameras)))))
    (turned_down 20)

-- What the call answers: how many cards it gave, or the number.
unfoldable pub answer_of : Outcome → Result ℕ ℕ
answer_of (gathered cards) = Ok (length cards)
answer_of (turned_down k) = Err k

-- what a call answers, with a buffer of so many places
abbrev pub answer_for : List ℕ → List ℕ → ℕ → Result ℕ ℕ
answer_for chosen cameras places = answer_of (gather_of chosen cameras places)

-- What it leaves in the buffer: "places past the list are kept"; a refusal changes nothing.
unfoldable pub leaves : Outcome → List ℕ → List ℕ
leaves (gathered cards) before = written cards before
leaves (turned_down k) before = before

abbrev pub buffer_after : List ℕ → List ℕ → List ℕ → List ℕ
buffer_after chosen cameras before = leaves (gather_of chosen cameras (length before)) before

-- What one call did: the answer and the buffer, both equal to the definitions above.
pub record Answered (chosen cameras before after : List ℕ) (r : Result ℕ ℕ) : Type 0 where
  pub answer : r ≡ answer_for chosen cameras (length before)
  pub buffer : after ≡ buffer_after chosen cameras before
