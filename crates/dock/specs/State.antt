-- The dock as code (document 01, "The dock"): a small record that goes by value, and a lent byte for each frame. `ShowsDock` says which dock of
-- the model (crates/schedule/specs/Dock.antt) a record and its memory are; what `drive` does is said in specs/Drive.antt.
-- Assumes nothing.
use Rattle.std.specs.Prelude.{ℕ, ◌+◌, ◌≤◌, ◌<◌, min, ◌≡◌, Bool, true, false, not, cond, List, length, get_or, replicate}
use Rattle.counting.specs.Frames.{card_of}
use Rattle.schedule.specs.Dock.{is_in, is_empty, holding, read_frame, drop_frame, end_cycle, Step as ModelStep, Dock as ModelDock}
use Rattle.header.specs.Limits.{max_cards, max_frames}
use Rattle.dock.specs.declared.Dock.{Dock}
use Rattle.dock.specs.declared.Step.{Step}
use Rattle.dock.specs.declared.Step.TheVariants.{Read, Drop, End}

-- the most cycles that a record counts; the count then stays there
abbrev pub most_cycles : ℕ
most_cycles = 4294967295

-- a step of the code as a step of the model
abbrev pub step_of : Step → ModelStep
step_of (Read p) = read_frame p.0
step_of (Drop p) = drop_frame p.0
step_of End = end_cycle

-- a frame's byte: its card, and 128 more while the frame is held
abbrev pub mark : List ℕ → (ℕ → Bool) → ℕ → ℕ
mark cards held i = card_of cards i + cond (held i) 128 0

-- The record and the memory show the model's dock d, for a pool of m and the list of cards.
pub record ShowsDock (m : ℕ) (cards : List ℕ) (d : ModelDock) (dock : Dock) (memory : List ℕ) : Type 0 where
  pub frames : dock.frames ≡ length cards
  pub pool : dock.pool ≡ m
  pub delivered : dock.delivered ≡ d.delivered
  pub holds : dock.holding ≡ holding cards d
  pub ended : dock.ended ≡ min d.ended most_cycles
  pub broken : dock.broken ≡ d.broken
  pub reading : dock.reading ≡ not (is_empty d.busy)
  pub busy : (c : ℕ) → c < max_cards → get_or dock.busy c false ≡ is_in c d.busy
  pub flags : length dock.busy ≡ max_cards
  -- a byte for each frame
  pub room : length cards ≤ length memory
  pub marks : (i : ℕ) → i < length cards → get_or memory i 0 ≡ mark cards d.held i
  -- a list within the limits, and a dock that holds only frames which are still to be handed over
  pub few : length cards ≤ max_frames
  pub each_card : (i : ℕ) → i < length cards → card_of cards i < max_cards
  pub inside : d.delivered ≤ length cards
  pub ahead : (i : ℕ) → i < length cards → d.held i ≡ true → d.delivered ≤ i

-- "At the start it is empty: no frame handed over or held, no read, no cycle ended, not broken off."
abbrev pub new_dock : ℕ → ℕ → Dock
new_dock m frames =
    record {
      frames = frames;
      pool = m;
      delivered = 0;
      holding = 0;
      ended = 0;
      broken = false;
      reading = false;
      busy = replicate max_cards false;
    }
