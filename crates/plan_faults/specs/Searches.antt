-- What the searches for a card fault keep: the latest cycle of each card, and which cards have a frame in a cycle.
-- Assumes nothing.
use Rattle.std.specs.Prelude.{ℕ, ◌+◌, ◌/◌, ◌%◌, ◌^◌, ◌≤◌, ◌<◌, ◌≡◌, false, ◌&&◌, List, eqb, length, get_or}
use Rattle.counting.specs.Count.{how_many}
use Rattle.counting.specs.Frames.{card_of}
use Rattle.schedule.specs.Schedule.{cycle_of}
use Rattle.header.specs.Limits.{max_cards, max_frames}
use Rattle.plan_faults.specs.Faults.{card_fault}

-- none of the first i frames has a cycle after the latest of its card
pub record Latest (cards cycles latest : List ℕ) (i : ℕ) : Type 0 where
  pub long : length latest ≡ max_cards
  pub late : (j : ℕ) → j < i → cycle_of cycles j ≤ get_or latest (card_of cards j) 0

-- the frames from `from` up to i are each after all earlier ones of their card: none has a card fault
pub record Rising (cards cycles latest : List ℕ) (from i : ℕ) : Type 0 where
  pub on : from ≤ i
  pub inside : i ≤ length cards
  pub each : (j : ℕ) → from ≤ j → j < i → card_fault cards cycles j ≡ false
  pub so_far : Latest cards cycles latest i

-- up to frame r, which is not, or to the end of the list
pub record Risen (cards cycles latest : List ℕ) (from r : ℕ) : Type 0 where
  pub rising : Rising cards cycles latest from r
  pub behind : r < length cards → cycle_of cycles r ≤ get_or latest (card_of cards r) 0

-- A set of cards is a number: its binary digit k is 1 where card k is in it.
abbrev pub member_of : ℕ → ℕ → ℕ
member_of set card = set / 2 ^ card % 2

-- The first i frames have no card fault.
pub record ClearTo (cards cycles : List ℕ) (i : ℕ) : Type 0 where
  pub inside : i ≤ length cards
  pub each : (j : ℕ) → j < i → card_fault cards cycles j ≡ false

-- The first n frames are looked at, of which the first `from` are known to have no card fault.
pub record Front (cards cycles : List ℕ) (from n : ℕ) : Type 0 where
  pub clear : ClearTo cards cycles from
  pub on : from ≤ n
  pub inside : n ≤ length cards

-- In the set of each cycle are the cards of the first i frames that have it.
pub record Sets (cards cycles seen : List ℕ) (i : ℕ) : Type 0 where
  pub long : length seen ≡ max_frames + 1
  pub members : (x k : ℕ) → x ≤ max_frames → member_of (get_or seen x 0) k ≡ how_many i (λ j. eqb (card_of cards j) k && eqb (cycle_of cycles j) x)

-- A plan whose cycles are up to 4,096.
pub record LowCycles (cycles : List ℕ) : Type 0 where
  pub each : (i : ℕ) → i < length cycles → cycle_of cycles i ≤ max_frames
