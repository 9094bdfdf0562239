-- What one call of `drive` answers and what it leaves in lent memory, for EVERY record, step and memory: the rules of document 01, "The dock",
-- said of a record and its bytes. Wherever the two show a dock of the model, this is the model's step (`Follows`).
--
-- A frame's byte modulo 32 is the frame's card; the frame is held where the byte is 128 or more.
-- Edge cases, which no dock that a call gave has: a read takes no buffer where all frames are counted as held, a drop frees none where none is,
-- and the count of frames held does not go below 0.
-- Assumes nothing.
use Rattle.std.specs.Prelude.{ℕ, ◌+◌, ◌-◌, ◌%◌, ◌≡◌, Bool, false, not, ◌&&◌, ◌||◌, cond, Result, Ok, Err, List, [], ◌∷◌, ◌++◌, leb, ltb, length, get_or, set}
use Rattle.std.specs.Result.{result_unwrap_or}
use Rattle.counting.specs.Count.{tabulate}
use Rattle.schedule.specs.Dock.{empty_dock, deliver, Step as ModelStep, Dock as ModelDock}
use Rattle.schedule.specs.Dock as model
use Rattle.dock.specs.State.{step_of, ShowsDock}
use Rattle.dock.specs.Records.{broken_off, turn_used, now_holding, cycle_ended}
use Rattle.dock.specs.declared.Dock.{Dock}
use Rattle.dock.specs.declared.Step.{Step}
use Rattle.dock.specs.declared.Step.TheVariants.{Read, Drop, End}

-- the card in a frame's byte, and whether the frame is held
abbrev pub card_in : ℕ → ℕ
card_in b = b % 32

abbrev pub is_held : ℕ → Bool
is_held b = leb 128 b

abbrev pub held_in : List ℕ → ℕ → Bool
held_in memory i = is_held (get_or memory i 0)

-- "A frame neither held nor handed over takes a buffer": frame i, whose byte is b
abbrev pub takes_buffer : Dock → ℕ → ℕ → Bool
takes_buffer dock i b = not (is_held b) && (leb dock.delivered i && ltb dock.holding dock.frames)

-- "a held frame is no longer held; for any other frame nothing changes"
abbrev pub frees_buffer : Dock → ℕ → Bool
frees_buffer dock b = is_held b && ltb 0 dock.holding

-- "while the next frame of the list is held, it is handed over": how many are handed over then
abbrev pub handed_over : Dock → List ℕ → ℕ
handed_over dock memory = deliver (held_in memory) (dock.frames - dock.delivered) dock.delivered

-- the bytes of the frames from `from` to n, each 128 less; the others as they are
abbrev pub freed : ℕ → ℕ → List ℕ → List ℕ
freed from n memory = tabulate (length memory) (λ i. get_or memory i 0 - cond (leb from i && ltb i n) 128 0)

module _ (dock : Dock) (memory : List ℕ) where
  -- "against the rules if its card has read in this cycle"; "after any read in this cycle"; "if more than m frames are held". A position not
  -- below L is against the rules too.
  abbrev pub against_rules : Step → Bool
  against_rules (Read p) = leb dock.frames p.0 || get_or dock.busy (card_in (get_or memory p.0 0)) false
  against_rules (Drop p) = leb dock.frames p.0 || dock.reading
  against_rules End = ltb dock.pool dock.holding

  -- what a step within the rules makes of the record
  abbrev pub record_made : Step → Dock
  record_made (Read p) =
      let b : ℕ = get_or memory p.0 0 in
      turn_used dock (card_in b) (cond (takes_buffer dock p.0 b) (dock.holding + 1) dock.holding)
  record_made (Drop p) = cond (frees_buffer dock (get_or memory p.0 0)) (now_holding dock (dock.holding - 1)) dock
  record_made End = cycle_ended dock (handed_over dock memory)

  -- and of the bytes
  abbrev pub bytes_made : Step → List ℕ
  bytes_made (Read p) =
      let b : ℕ = get_or memory p.0 0 in
      cond (takes_buffer dock p.0 b) (set memory p.0 (b + 128)) memory
  bytes_made (Drop p) =
      let b : ℕ = get_or memory p.0 0 in
      cond (frees_buffer dock b) (set memory p.0 (b - 128)) memory
  bytes_made End = freed dock.delivered (handed_over dock memory) memory

  -- "A step against the rules breaks the list of steps off: beyond that, neither it nor any later step changes anything."
  unfoldable pub record_after : Step → Dock
  record_after step = cond dock.broken dock (cond (against_rules step) (broken_off dock) (record_made step))

  unfoldable pub bytes_after : Step → List ℕ
  bytes_after step = cond (dock.broken || against_rules step) memory (bytes_made step)

  -- lent memory has fewer than L places
  abbrev pub too_short : Bool
  too_short = ltb (length memory) dock.frames

  -- What `drive` answers: 10 where lent memory has fewer than L places, else the record after the step.
  unfoldable pub drive_of : Step → Result Dock ℕ
  drive_of step = cond too_short (Err 10) (Ok (record_after step))

  -- The memory after `drive`; a refusal changes nothing.
  unfoldable pub memory_driven : Step → List ℕ
  memory_driven step = cond too_short memory (bytes_after step)

-- The dock after a call: the one answered, and with a refusal the one that was handed in.
abbrev pub dock_after : Dock → Result Dock ℕ → Dock
dock_after dock r = result_unwrap_or r dock

-- One call of `drive` follows the model: whichever dock of the model the record and the memory show, it isn't refused, and the model's step of
-- that dock is shown afterwards.
pub record Follows (dock : Dock) (step : Step) (before : List ℕ) (r : Result Dock ℕ) (after : List ℕ) : Type 0 where
  pub follows :
      (m : ℕ) (cards : List ℕ) (d : ModelDock) → ShowsDock m cards d dock before
      → (r ≡ Ok (dock_after dock r)) × ShowsDock m cards (model.step m cards (step_of step) d) (dock_after dock r) after

-- Calls of `drive` one after the other, from a dock and memory that show the empty dock: the steps so far, and the dock and the memory now.
pub data Driving (m : ℕ) (cards : List ℕ) : List ModelStep → Dock → List ℕ → Type 0 where
  begin : (dock : Dock) (memory : List ℕ) → ShowsDock m cards empty_dock dock memory → Driving m cards [] dock memory
  next :
      (steps : List ModelStep) (dock : Dock) (memory : List ℕ) (a : Step) → Driving m cards steps dock memory
      → Driving m cards (steps ++ (step_of a ∷ [])) (dock_after dock (drive_of dock memory a)) (memory_driven dock memory a)
