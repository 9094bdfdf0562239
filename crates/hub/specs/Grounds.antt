-- The grounds on which the hub turns a call down (request 2026-06), row by row, in plain conditions. `Says chosen cameras places r` is that the rows, read in
-- their order, answer r. It is proved that the call gives this answer and no other.
-- Assumes nothing.
use Rattle.std.specs.Prelude.{ℕ, ◌≤◌, ◌<◌, List, length, get_or}
use Rattle.header.specs.Limits.{Within, max_frames}
use Rattle.hub.specs.Gather.{max_cameras, camera_of}
use Rattle.hub.specs.Patterns.{hub_size}
use Rattle.std.specs.Prelude.{Result, Ok, Err}

-- 1 to 6 cameras, each with a pattern from 0 to 7
pub record Known (chosen : List ℕ) : Type 0 where
  pub count : Within max_cameras (length chosen)
  pub pattern : (q : ℕ) → q < length chosen → get_or chosen q 0 < hub_size

-- every camera number is below the count
abbrev pub Seen : List ℕ → List ℕ → Type 0
Seen chosen cameras = (i : ℕ) → i < length cameras → camera_of cameras i < length chosen

-- no ground: a list that is gathered, in a buffer of so many places
pub record Fits (chosen cameras : List ℕ) (places : ℕ) : Type 0 where
  pub known : Known chosen
  pub few : length cameras ≤ max_frames
  pub seen : Seen chosen cameras
  pub room : length cameras ≤ places

module _ (chosen cameras : List ℕ) (places : ℕ) where
  -- The rows, each with what must not have been met before it.
  pub data Says : Result ℕ ℕ → Type 0 where
    -- "20 for a camera count not 1 to 6 or a pattern not 0 to 7, first of all"
    row20 : (Known chosen → ⊥) → Says (Err 20)
    -- "Lists over 4,096 give 6"
    row6 : Known chosen → max_frames < length cameras → Says (Err 6)
    -- "21 for a camera number not below the count, after 6"
    row21 :
        Known chosen → length cameras ≤ max_frames → (i : ℕ) → i < length cameras → length chosen ≤ camera_of cameras i → Says (Err 21)
    -- "a short buffer 10 and last"
    row10 : Known chosen → length cameras ≤ max_frames → Seen chosen cameras → places < length cameras → Says (Err 10)
    -- no ground
    none : Fits chosen cameras places → Says (Ok (length cameras))
