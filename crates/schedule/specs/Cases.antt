-- The starred cases of document 01, "Cases", and an example for each rule of the dock that no theorem pins: one table, which
-- proofs/Cases.antt proves by computing.
-- Assumes nothing.
use Rattle.std.specs.Prelude.{ℕ, Bool, true, false, List, [], ◌∷◌}
use Rattle.schedule.specs.Greedy.{Plan, save_and_keep, greedy_writing, lazy_prefetching}
use Rattle.schedule.specs.Dock.{Step, read_frame, drop_frame, end_cycle, Dock, empty_dock, holding, run}
use Rattle.schedule.specs.Drive.{Outcome, complete, unfinished, outcome, peak}
use Rattle.schedule.specs.Verdict.{Verdict, valid, faulty, no_cycle, shared_card, overfull, verdict_on_read, verdict_on_save}

infix 70 ◌gives◌
-- for a pool of m and the cards of a list: a plan, a run of the dock, the peak of a run, the checker's verdict on a plan
pub data Question : Type 0 where
  read_plan : ℕ → List ℕ → Question
  save_plan : ℕ → List ℕ → Question
  keep_plan : ℕ → List ℕ → Question
  drive : ℕ → List ℕ → List Step → Question
  peak_of : ℕ → List ℕ → List Step → Question
  check_read : ℕ → List ℕ → List ℕ → Question
  check_save : ℕ → List ℕ → List ℕ → Question

pub data Answer : Type 0 where
  -- the cycles and T
  plan : List ℕ → ℕ → Answer
  -- the outcome, the frames delivered, the frames held, and whether the steps are broken off
  dock : Outcome → ℕ → ℕ → Bool → Answer
  most : ℕ → Answer
  verdict : Verdict → Answer

pub data Case : Type 0 where
  ◌gives◌ : Question → Answer → Case

abbrev plan_shown : Plan → Answer
plan_shown p = plan p.cycles p.T

abbrev dock_shown : List ℕ → Outcome → Dock → Answer
dock_shown cards o d = dock o d.delivered (holding cards d) d.broken

abbrev pub answer_to : Question → Answer
answer_to (read_plan m cards) = plan_shown (lazy_prefetching m cards)
answer_to (save_plan m cards) = plan_shown (greedy_writing m cards)
answer_to (keep_plan m cards) = plan_shown (save_and_keep m cards)
answer_to (drive m cards steps) = dock_shown cards (outcome m cards steps empty_dock) (run m cards steps empty_dock)
answer_to (peak_of m cards steps) = most (peak m cards steps empty_dock)
answer_to (check_read m cards cycles) = verdict (verdict_on_read m cards cycles)
answer_to (check_save m cards cycles) = verdict (verdict_on_save m cards cycles)

abbrev pub computed : Case → Answer
computed (question gives answer) = answer_to question

abbrev pub expected : Case → Answer
expected (question gives answer) = answer

abbrev pub cases : List Case
cases =
    -- the starred plans
    read_plan 2 (0 ∷ 0 ∷ 1 ∷ []) gives plan (1 ∷ 2 ∷ 2 ∷ []) 2
    ∷ save_plan 2 (0 ∷ 0 ∷ 1 ∷ []) gives plan (1 ∷ 2 ∷ 2 ∷ []) 2
    ∷ read_plan 1 (0 ∷ 0 ∷ 1 ∷ []) gives plan (1 ∷ 2 ∷ 3 ∷ []) 3
    ∷ read_plan 2 (0 ∷ 0 ∷ 0 ∷ 1 ∷ []) gives plan (1 ∷ 2 ∷ 3 ∷ 3 ∷ []) 3
    ∷ keep_plan 2 (0 ∷ 0 ∷ 0 ∷ 1 ∷ []) gives plan (1 ∷ 2 ∷ 0 ∷ 0 ∷ []) 2
    ∷ read_plan 3 (0 ∷ 1 ∷ 2 ∷ 0 ∷ []) gives plan (1 ∷ 2 ∷ 2 ∷ 2 ∷ []) 2
    ∷ read_plan 2 (0 ∷ 1 ∷ 2 ∷ 0 ∷ []) gives plan (1 ∷ 1 ∷ 2 ∷ 2 ∷ []) 2
    ∷ save_plan 3 (0 ∷ 1 ∷ 2 ∷ 0 ∷ []) gives plan (1 ∷ 1 ∷ 1 ∷ 2 ∷ []) 2
    ∷ read_plan 1 [] gives plan [] 0
    ∷ save_plan 1 [] gives plan [] 0
    ∷ keep_plan 1 [] gives plan [] 0
    -- a list on which a well-known library takes 5 cycles
    ∷ read_plan 3 (2 ∷ 1 ∷ 1 ∷ 0 ∷ 0 ∷ 0 ∷ 0 ∷ []) gives plan (1 ∷ 1 ∷ 2 ∷ 1 ∷ 2 ∷ 3 ∷ 4 ∷ []) 4
    -- a drop after a read in the same cycle is against the rules, also of a frame not held, and after a read without effect
    ∷ drive 2 (0 ∷ 0 ∷ 1 ∷ []) (read_frame 0 ∷ drop_frame 0 ∷ end_cycle ∷ []) gives dock unfinished 0 1 true
    ∷ drive 2 (0 ∷ 0 ∷ 1 ∷ []) (read_frame 0 ∷ drop_frame 2 ∷ end_cycle ∷ []) gives dock unfinished 0 1 true
    ∷ drive 2 (0 ∷ 0 ∷ 1 ∷ []) (read_frame 0 ∷ end_cycle ∷ read_frame 0 ∷ drop_frame 2 ∷ []) gives dock unfinished 1 0 true
    -- a drop at the start of a cycle frees the buffer; of a frame not held it changes nothing
    ∷ drive 2 (0 ∷ 0 ∷ 1 ∷ []) (read_frame 2 ∷ end_cycle ∷ drop_frame 2 ∷ drop_frame 2 ∷ end_cycle ∷ []) gives dock unfinished 0 0 false
    -- a card's second read in a cycle is against the rules, also of the same frame
    ∷ drive 2 (0 ∷ 0 ∷ 1 ∷ []) (read_frame 0 ∷ read_frame 1 ∷ end_cycle ∷ []) gives dock unfinished 0 1 true
    ∷ drive 2 (0 ∷ 0 ∷ 1 ∷ []) (read_frame 0 ∷ read_frame 0 ∷ []) gives dock unfinished 0 1 true
    -- an end that finds more than m held is against the rules, also where it would hand them over
    ∷ drive 1 (0 ∷ 1 ∷ []) (read_frame 0 ∷ read_frame 1 ∷ end_cycle ∷ []) gives dock unfinished 0 2 true
    -- after a step against the rules nothing changes any more
    ∷ drive 1 (0 ∷ 1 ∷ []) (read_frame 0 ∷ read_frame 0 ∷ end_cycle ∷ read_frame 1 ∷ end_cycle ∷ []) gives dock unfinished 0 1 true
    -- a read of a frame already handed over, or held, uses the card's turn and changes nothing else
    ∷ drive 1 (0 ∷ 0 ∷ []) (read_frame 0 ∷ end_cycle ∷ read_frame 0 ∷ end_cycle ∷ read_frame 1 ∷ end_cycle ∷ []) gives dock (complete 3) 2 0 false
    ∷ drive 1 (0 ∷ 0 ∷ []) (read_frame 0 ∷ end_cycle ∷ read_frame 0 ∷ read_frame 1 ∷ []) gives dock unfinished 1 0 true
    ∷ drive 2 (0 ∷ 1 ∷ []) (read_frame 1 ∷ end_cycle ∷ read_frame 1 ∷ read_frame 0 ∷ end_cycle ∷ []) gives dock (complete 2) 2 0 false
    -- a position past the list is against the rules
    ∷ drive 1 (0 ∷ []) (read_frame 1 ∷ read_frame 0 ∷ end_cycle ∷ []) gives dock unfinished 0 0 true
    -- steps after the last frame is handed over add no cycles, whatever they are
    ∷ drive 1 (0 ∷ []) (read_frame 0 ∷ end_cycle ∷ end_cycle ∷ read_frame 0 ∷ read_frame 0 ∷ []) gives dock (complete 1) 1 0 true
    -- with no frames a run is complete from the start
    ∷ drive 1 [] (end_cycle ∷ end_cycle ∷ []) gives dock (complete 0) 0 0 false
    -- the peak counts what is held right after the reads of a cycle, before handing over
    ∷ peak_of 3 (0 ∷ 0 ∷ 1 ∷ []) (read_frame 0 ∷ read_frame 2 ∷ end_cycle ∷ read_frame 1 ∷ end_cycle ∷ []) gives most 2
    ∷ peak_of 3 (0 ∷ 0 ∷ 1 ∷ []) (read_frame 0 ∷ end_cycle ∷ read_frame 1 ∷ read_frame 2 ∷ end_cycle ∷ []) gives most 2
    -- an end that finds more than m held counts, and nothing after it
    ∷ peak_of 1 (0 ∷ 1 ∷ 2 ∷ []) (read_frame 1 ∷ read_frame 2 ∷ end_cycle ∷ read_frame 0 ∷ end_cycle ∷ []) gives most 2
    -- reads that no end follows within the rules do not count, and a frame dropped before the reads is not held
    ∷ peak_of 3 (0 ∷ 0 ∷ 1 ∷ []) (read_frame 0 ∷ end_cycle ∷ read_frame 1 ∷ read_frame 2 ∷ []) gives most 1
    ∷ peak_of 3 (0 ∷ 0 ∷ 1 ∷ []) (read_frame 2 ∷ read_frame 1 ∷ read_frame 0 ∷ end_cycle ∷ []) gives most 0
    ∷ peak_of 3 (0 ∷ 0 ∷ 1 ∷ []) (read_frame 2 ∷ end_cycle ∷ drop_frame 2 ∷ read_frame 0 ∷ end_cycle ∷ []) gives most 1
    -- no cycles
    ∷ peak_of 3 (0 ∷ 0 ∷ 1 ∷ []) [] gives most 0
    -- the starred verdicts
    ∷ check_read 2 (0 ∷ 0 ∷ 1 ∷ []) (1 ∷ 2 ∷ 1 ∷ []) gives verdict (valid 2 2)
    ∷ check_read 2 (0 ∷ 0 ∷ 1 ∷ []) (1 ∷ 2 ∷ 2 ∷ []) gives verdict (valid 2 2)
    ∷ check_read 2 (0 ∷ 0 ∷ 1 ∷ []) (2 ∷ 1 ∷ 2 ∷ []) gives verdict (faulty 0 overfull)
    ∷ check_read 3 (0 ∷ 0 ∷ 1 ∷ []) (2 ∷ 1 ∷ 2 ∷ []) gives verdict (valid 2 3)
    ∷ check_read 1 (0 ∷ 0 ∷ 1 ∷ []) (1 ∷ 2 ∷ 2 ∷ []) gives verdict (faulty 1 overfull)
    -- the other verdicts of document 01
    ∷ check_read 1 (0 ∷ 0 ∷ 1 ∷ []) (1 ∷ 1 ∷ 2 ∷ []) gives verdict (faulty 0 overfull)
    ∷ check_read 2 (0 ∷ 0 ∷ 1 ∷ []) (1 ∷ 1 ∷ 2 ∷ []) gives verdict (faulty 1 shared_card)
    ∷ check_read 2 (0 ∷ 0 ∷ 1 ∷ []) (1 ∷ 3 ∷ 3 ∷ []) gives verdict (valid 3 2)
    -- of a frame's faults the first: cycle 0, then a shared card, then the pool
    ∷ check_read 1 (0 ∷ 0 ∷ 1 ∷ []) (0 ∷ 0 ∷ 0 ∷ []) gives verdict (faulty 0 no_cycle)
    ∷ check_save 1 (0 ∷ 0 ∷ []) (1 ∷ 1 ∷ []) gives verdict (faulty 1 shared_card)
    ∷ check_save 1 (0 ∷ 1 ∷ []) (1 ∷ 1 ∷ []) gives verdict (faulty 1 overfull)
    -- a later cycle 0 takes part in the pool rule of an earlier frame, and an earlier one in that of a later frame
    ∷ check_read 1 (0 ∷ 1 ∷ []) (1 ∷ 0 ∷ []) gives verdict (faulty 0 overfull)
    ∷ check_save 1 (0 ∷ 1 ∷ []) (0 ∷ 1 ∷ []) gives verdict (faulty 0 no_cycle)
    -- a save counts earlier frames, and its peak is 0
    ∷ check_save 2 (0 ∷ 0 ∷ 1 ∷ []) (1 ∷ 2 ∷ 2 ∷ []) gives verdict (valid 2 0)
    ∷ check_save 2 (0 ∷ 0 ∷ 1 ∷ []) (2 ∷ 3 ∷ 1 ∷ []) gives verdict (faulty 2 overfull)
    -- with no frames
    ∷ check_read 1 [] [] gives verdict (valid 0 0)
    ∷ []
