-- Driving the dock: the cycles that a list of steps needs, the steps of a plan, and the peak (document 01, "The dock", and
-- request 2026-05).
-- Assumes nothing.
use Rattle.std.specs.Prelude.{ℕ, zero, suc, max, ◌≡◌, Bool, true, false, not, ◌&&◌, cond, List, [], ◌∷◌, ◌++◌, eqb, leb, length}
use Rattle.schedule.specs.Schedule.{cycle_of, cycles_in}
use Rattle.schedule.specs.Dock.{Step, read_frame, drop_frame, end_cycle, Dock, empty_dock, holding, step, run}

-- A list of steps hands all frames over and needs so many cycles, or it does not hand them all over.
pub data Outcome : Type 0 where
  complete : ℕ → Outcome
  unfinished : Outcome

-- whether every frame of the list is handed over
abbrev pub all_delivered : List ℕ → Dock → Bool
all_delivered cards d = leb (length cards) d.delivered

module _ (m : ℕ) (cards : List ℕ) where
  -- "The cycles needed are all those ended up to and with the step that hands over the last frame, 0 for no frames; later steps do not
  -- add to them."
  unfoldable pub outcome : List Step → Dock → Outcome
  outcome [] d = cond (all_delivered cards d) (complete d.ended) unfinished
  outcome (a ∷ steps) d = cond (all_delivered cards d) (complete d.ended) (outcome steps (step m cards a d))

-- whether a step is the end of a cycle
abbrev pub is_end : Step → Bool
is_end (read_frame i) = false
is_end (drop_frame i) = false
is_end end_cycle = true

-- "held right after the reads of a cycle, before handing over": what an end of a cycle finds held. An end that finds more than m is against the
-- rules, but the reads of its cycle were made, so it counts too; once the list of steps is broken off, nothing counts.
abbrev pub held_at_end : List ℕ → Step → Dock → ℕ
held_at_end cards a d = cond (is_end a && not d.broken) (holding cards d) 0

-- "The peak becomes the most frames held right after the reads of a cycle, before handing over" (request 2026-05); 0 for no cycles.
unfoldable pub peak : ℕ → List ℕ → List Step → Dock → ℕ
peak m cards [] d = 0
peak m cards (a ∷ steps) d = max (held_at_end cards a d) (peak m cards steps (step m cards a d))

-- "the reads of the frames with that number in list order": of the first n frames those with cycle c
abbrev pub reads_of : List ℕ → ℕ → ℕ → List Step
reads_of cycles c zero = []
reads_of cycles c (suc n) = reads_of cycles c n ++ cond (eqb (cycle_of cycles n) c) (read_frame n ∷ []) []

-- "for each cycle from 1 to T, the reads of the frames with that number in list order, then the end of the cycle, and no drops"
unfoldable pub steps_to : List ℕ → ℕ → List Step
steps_to cycles zero = []
steps_to cycles (suc t) = steps_to cycles t ++ (reads_of cycles (suc t) (length cycles) ++ (end_cycle ∷ []))

-- a plan's list of steps
abbrev pub steps_of : List ℕ → List Step
steps_of cycles = steps_to cycles (cycles_in cycles)

-- "the peak of its run, on a dock with a buffer for every frame": the buffers that a read plan needs
abbrev pub buffers_needed : List ℕ → List ℕ → ℕ
buffers_needed cards cycles = peak (length cards) cards (steps_of cycles) empty_dock

-- A list of steps, made from dock d on, is broken off at an end of a cycle: the steps before that end are within the rules, and the end is not.
pub record BreaksAtEnd (m : ℕ) (cards : List ℕ) (steps : List Step) (d : Dock) : Type 0 where
  pub before : List Step
  pub after : List Step
  pub parts : steps ≡ before ++ (end_cycle ∷ after)
  pub within_rules : (run m cards before d).broken ≡ false
  pub broken_off : (run m cards (before ++ (end_cycle ∷ [])) d).broken ≡ true
