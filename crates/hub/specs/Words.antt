-- A pattern as one word of 64 bits: a byte for each place. The code takes the lowest byte for a camera's next card and turns the word by one byte, so that
-- the next card is always the lowest. Eight frames of one camera, one after the other, take all eight cards, and the word is as it was.
-- Assumes nothing.
use Rattle.std.specs.Prelude.{ℕ, zero, suc, ◌+◌, ◌*◌, ◌/◌, ◌^◌, ◌%◌, ◌≤◌, ◌<◌, ◌≡◌, List, [], ◌∷◌, ◌++◌, length, get_or, drop}
use Rattle.counting.specs.Count.{sum, tabulate}
use Rattle.hub.specs.Gather.{max_cameras, camera_of, taken, pattern_of, card_for}
use Rattle.hub.specs.Grounds.{Known, Seen}
use Rattle.hub.specs.Patterns.{hub_size}

-- the card at place k mod 8 lowest, above it those at the places after it, going round
unfoldable pub word_at : (ℕ → ℕ) → ℕ → ℕ
word_at card k = sum hub_size (λ j. card ((k + j) % hub_size) * 256 ^ j)

-- a word turned by one byte
abbrev pub turn : ℕ → ℕ
turn word = word / 256 + word % 256 * 72057594037927936

-- the lowest n bytes of a word, the lowest one first
abbrev pub low_bytes : ℕ → ℕ → List ℕ
low_bytes zero word = []
low_bytes (suc n) word = (word % 256) ∷ low_bytes n (word / 256)

-- the words of the cameras, each at the first place of its pattern
pub record Words (chosen words : List ℕ) : Type 0 where
  pub so_many : length words ≡ max_cameras
  pub each : (q : ℕ) → q < length chosen → get_or words q 0 ≡ word_at (pattern_of chosen q) 0

-- After i frames each camera's word is turned to its next card, and the first i places of a buffer, which was `before`, have their cards.
pub record Placing (chosen cameras before : List ℕ) (i : ℕ) (words cards : List ℕ) : Type 0 where
  pub so_many : length words ≡ max_cameras
  pub each : (q : ℕ) → q < length chosen → get_or words q 0 ≡ word_at (pattern_of chosen q) (taken cameras i q)
  pub placed : cards ≡ tabulate i (card_for chosen cameras) ++ drop i before

-- From that on `from` frames to that on `to` frames, whatever the patterns are that the words stand for, and the buffer before.
abbrev pub Places : List ℕ → ℕ → ℕ → List ℕ → List ℕ → List ℕ → List ℕ → Type 0
Places cameras from to words cards words' cards' =
    (chosen before : List ℕ) → Known chosen → Seen chosen cameras → length cameras ≤ length before
    → Placing chosen cameras before from words cards → Placing chosen cameras before to words' cards'

-- what a part of a list of cameras asks of the tables that it is looked up in
pub record Inside (cameras : List ℕ) (from to places : ℕ) : Type 0 where
  pub order : from ≤ to
  pub listed : to ≤ length cameras
  pub room : to ≤ places
  pub low : (i : ℕ) → i < length cameras → camera_of cameras i < max_cameras

-- the n frames from place `at` on are all of one camera
abbrev pub AllOf : ℕ → List ℕ → ℕ → ℕ → Type 0
AllOf camera cameras at n = (j : ℕ) → j < n → camera_of cameras (at + j) ≡ camera
