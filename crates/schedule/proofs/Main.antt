-- The public theorems about schedules and the dock, each proved in a module of its own. They hold for every list of cards and every pool m
-- from 1 on, with no other premise. The definitions are in specs/: Schedule, Greedy, Dock, Drive; demand 3 as a whole is in specs/Demand;
-- joined lists are in crates/counting/specs/Joined.
-- Assumes nothing.
use Prim.Native.Nat.{ℕ, suc, ◌+◌, ◌-◌, ◌*◌, ◌≤◌, ◌<◌}
use mathlib.Core.Path.{◌≡◌, ap, ◌∙◌}
use mathlib.Core.List.{List, [], ◌∷◌, ◌++◌, reverse, map}
use native.Mathlib.Omega.{arith}
use lib.ListN.{length}
use Rattle.counting.specs.Count.{tabulate, largest}
use Rattle.counting.specs.Frames.{card_of, load}
use Rattle.counting.specs.Joined.{Sub, Joined}
use Rattle.counting.proofs.Joined.{joined_first, joined_second}
use Rattle.schedule.specs.Schedule.{cycles_in, o_backlog, i_backlog, Proper, CorrectSave, CorrectRead}
use Rattle.schedule.specs.Greedy.{greedy_writing, turn_round, lazy_prefetching}
use Rattle.schedule.specs.Dock.{Step, empty_dock, run}
use Rattle.schedule.specs.Drive.{complete, outcome, steps_of, peak, buffers_needed, BreaksAtEnd}
use Rattle.schedule.specs.Verdict.{Fault, valid, faulty, verdict_on_read, verdict_on_save, Named}
use Rattle.schedule.specs.Demand.{SaveDemand, Drives, ReadDemand}
use Rattle.schedule.specs.Loads.{fullest, Even, by_rank}
use Rattle.schedule.specs.OneFrame.{AtMostOneApart, NoneOrOneMore}
use Rattle.schedule.specs.Cases.{computed, expected, cases}
use Rattle.schedule.proofs.Fewest as fewest
use Rattle.schedule.proofs.SubLists as sublists
use Rattle.schedule.proofs.OneFrame as frames
use Rattle.schedule.proofs.Loads as loads
use Rattle.schedule.proofs.Ranks as ranks
use Rattle.schedule.proofs.Demands as demands
use Rattle.schedule.proofs.Duality as duality
use Rattle.schedule.proofs.Drive as drive
use Rattle.schedule.proofs.Peak as peaks
use Rattle.schedule.proofs.Broken as broken
use Rattle.schedule.proofs.Exact as exact
use Rattle.schedule.proofs.Named as faults
use Rattle.schedule.proofs.Cases as table

module _ (m : ℕ) (cards : List ℕ) (pool : 1 ≤ m) where
  -- greedy_writing's schedule is a correct save schedule, and its length is the number of cycles made.
  pub save_correct : CorrectSave m cards (greedy_writing m cards).cycles
  save_correct = fewest.greedy_correct m cards pool

  pub save_length : cycles_in (greedy_writing m cards).cycles ≡ (greedy_writing m cards).T
  save_length = fewest.greedy_length m cards pool

  -- Every correct save schedule, oldest first or not, is at least as long.
  pub save_fewest : (others : List ℕ) → CorrectSave m cards others → (greedy_writing m cards).T ≤ cycles_in others
  save_fewest = fewest.greedy_fewest m cards pool

  -- Lazy prefetching is a correct read schedule, and its length is its T.
  pub read_correct : CorrectRead m cards (lazy_prefetching m cards).cycles
  read_correct = fewest.lazy_correct m cards pool

  pub read_length : cycles_in (lazy_prefetching m cards).cycles ≡ (lazy_prefetching m cards).T
  read_length = fewest.lazy_length m cards pool

  -- Every list of reads, drops and ends, in whichever order and steps against the rules included, that hands all frames over needs at
  -- least T cycles.
  pub read_fewest : (steps : List Step) → (run m cards steps empty_dock).delivered ≡ length cards
      → (n : ℕ) × (outcome m cards steps empty_dock ≡ complete n) × ((lazy_prefetching m cards).T ≤ n)
  read_fewest = fewest.lazy_fewest m cards pool

  -- The run of our plan's own steps breaks no rule, hands over everything in exactly T cycles, and never holds more than m frames.
  pub read_drive : Drives m cards (lazy_prefetching m cards).cycles (lazy_prefetching m cards).T
  read_drive = fewest.lazy_drives m cards pool

  -- Every correct read schedule is at least T long.
  pub read_shortest : (others : List ℕ) → CorrectRead m cards others → (lazy_prefetching m cards).T ≤ cycles_in others
  read_shortest = fewest.lazy_shortest m cards pool

  -- Demand 3.
  pub save_demand : SaveDemand m cards (greedy_writing m cards).cycles (greedy_writing m cards).T
  save_demand = record { correct = save_correct; takes_T = save_length; none_shorter = save_fewest }

  pub read_demand : ReadDemand m cards (lazy_prefetching m cards).cycles (lazy_prefetching m cards).T
  read_demand = record { drives = read_drive; none_fewer = read_fewest }

module _ (m : ℕ) (cards cycles : List ℕ) where
  -- The run of every correct read schedule does the same in the cycles that it has.
  pub correct_drives : CorrectRead m cards cycles → Drives m cards cycles (cycles_in cycles)
  correct_drives = drive.correct_drives m cards cycles

  -- The checker's verdict (demand 2). A plan of L cycles is called valid exactly when it is a correct schedule; T is then its number of
  -- cycles, and the peak that of its run on a dock with a buffer for every frame.
  pub valid_read : length cycles ≡ length cards → (T p : ℕ) → verdict_on_read m cards cycles ≡ valid T p → CorrectRead m cards cycles
  unfolding verdict_on_read
  valid_read = λ n T p. exact.valid_correct i_backlog m cards cycles (valid (cycles_in cycles) (buffers_needed cards cycles)) T p n

  pub read_valid : CorrectRead m cards cycles
      → verdict_on_read m cards cycles ≡ valid (cycles_in cycles) (buffers_needed cards cycles)
  unfolding verdict_on_read
  read_valid = exact.correct_valid i_backlog m cards cycles (valid (cycles_in cycles) (buffers_needed cards cycles))

  pub valid_save : length cycles ≡ length cards → (T p : ℕ) → verdict_on_save m cards cycles ≡ valid T p → CorrectSave m cards cycles
  unfolding verdict_on_save
  valid_save = λ n T p. exact.valid_correct o_backlog m cards cycles (valid (cycles_in cycles) 0) T p n

  pub save_valid : CorrectSave m cards cycles → verdict_on_save m cards cycles ≡ valid (cycles_in cycles) 0
  unfolding verdict_on_save
  save_valid = exact.correct_valid o_backlog m cards cycles (valid (cycles_in cycles) 0)

  -- A verdict that is not valid names the lowest position at fault, and the first of its faults.
  pub read_named : (i : ℕ) (f : Fault) → verdict_on_read m cards cycles ≡ faulty i f → Named i_backlog m cards cycles i f
  unfolding verdict_on_read
  read_named = faults.named i_backlog m cards cycles (cycles_in cycles) (buffers_needed cards cycles)

  pub save_named : (i : ℕ) (f : Fault) → verdict_on_save m cards cycles ≡ faulty i f → Named o_backlog m cards cycles i f
  unfolding verdict_on_save
  save_named = faults.named o_backlog m cards cycles (cycles_in cycles) 0

  -- The duality principle (the paper, Theorem 1), both ways: a correct schedule of T cycles turned round is correct for the reversed list,
  -- in T cycles or fewer.
  pub save_to_read : CorrectSave m cards cycles
      → CorrectRead m (reverse cards) (turn_round (cycles_in cycles) cycles) × (cycles_in (turn_round (cycles_in cycles) cycles) ≤ cycles_in cycles)
  save_to_read ok = (duality.save_to_read m cards cycles ok, duality.turned_no_longer m o_backlog i_backlog cards cycles ok)

  pub read_to_save : CorrectRead m cards cycles
      → CorrectSave m (reverse cards) (turn_round (cycles_in cycles) cycles) × (cycles_in (turn_round (cycles_in cycles) cycles) ≤ cycles_in cycles)
  read_to_save ok = (duality.read_to_save m cards cycles ok, duality.turned_no_longer m i_backlog o_backlog cards cycles ok)

-- The peak as the buffers really needed (request 2026-05).
module _ (cards cycles : List ℕ) where
  -- "A read plan without cycle 0 or a shared card and cycle is then valid for pool m exactly when the peak of its run, on a dock with a buffer for
  -- every frame, is at most m."
  pub correct_within_peak :
      Proper cards cycles
      → (m : ℕ) → (CorrectRead m cards cycles → buffers_needed cards cycles ≤ m) × (buffers_needed cards cycles ≤ m → CorrectRead m cards cycles)
  correct_within_peak ok m = (peaks.correct_within cards cycles ok m, peaks.within_correct cards cycles ok m)

  -- That peak without a run: the largest backlog and one, for the frame itself; 0 for no frames.
  pub peak_closed : Proper cards cycles → buffers_needed cards cycles ≡ largest (tabulate (length cycles) (λ i. suc (i_backlog cycles i)))
  peak_closed = peaks.needed_closed cards cycles

  -- So the peak of a correct read schedule is the smallest pool for which it is correct,
  pub peak_smallest :
      (m : ℕ) → CorrectRead m cards cycles
      → CorrectRead (buffers_needed cards cycles) cards cycles × ((pool : ℕ) → CorrectRead pool cards cycles → buffers_needed cards cycles ≤ pool)
  peak_smallest m ok = (
    peaks.within_correct cards cycles ok.proper (buffers_needed cards cycles) (omega arith),
    peaks.correct_within cards cycles ok.proper,
  )

  -- and its run on the dock of each such pool has that same peak.
  pub peak_same : (m : ℕ) → CorrectRead m cards cycles → peak m cards (steps_of cycles) empty_dock ≡ buffers_needed cards cycles
  peak_same m = peaks.same_peak m cards cycles

-- The peak of EVERY list of steps is above the pool just where the list is broken off at an end of a cycle.
pub peak_above_pool :
    (m : ℕ) (cards : List ℕ) (steps : List Step)
    → (m < peak m cards steps empty_dock → BreaksAtEnd m cards steps empty_dock) × (BreaksAtEnd m cards steps empty_dock → m < peak m cards steps empty_dock)
peak_above_pool m cards steps = (broken.above_breaks m cards steps empty_dock, broken.breaks_above m cards steps empty_dock)

-- Our own plans are always valid, with their T; the read plan's peak is at most its pool.
module _ (m : ℕ) (cards : List ℕ) (pool : 1 ≤ m) where
  pub own_read_valid :
      verdict_on_read m cards (lazy_prefetching m cards).cycles
      ≡ valid (lazy_prefetching m cards).T (buffers_needed cards (lazy_prefetching m cards).cycles)
  own_read_valid =
      read_valid m cards (lazy_prefetching m cards).cycles (read_correct m cards pool)
      ∙ ap (λ T. valid T (buffers_needed cards (lazy_prefetching m cards).cycles)) (read_length m cards pool)

  pub own_peak : buffers_needed cards (lazy_prefetching m cards).cycles ≤ m
  own_peak = let ok = read_correct m cards pool in (correct_within_peak cards (lazy_prefetching m cards).cycles ok.proper m).0 ok

  pub own_save_valid : verdict_on_save m cards (greedy_writing m cards).cycles ≡ valid (greedy_writing m cards).T 0
  own_save_valid =
      save_valid m cards (greedy_writing m cards).cycles (save_correct m cards pool) ∙ ap (λ T. valid T 0) (save_length m cards pool)

-- Lists with frames left out, and lists joined from two (request 2026-04).
module _ (m : ℕ) (pool : 1 ≤ m) where
  -- A list with some frames left out, the others in their order, never needs more cycles than the whole list.
  pub sub_save : {part whole : List ℕ} → Sub part whole → (greedy_writing m part).T ≤ (greedy_writing m whole).T
  sub_save = sublists.save_sub m pool

  pub sub_read : {part whole : List ℕ} → Sub part whole → (lazy_prefetching m part).T ≤ (lazy_prefetching m whole).T
  sub_read = sublists.read_sub m pool

  -- "Its fewest cycles are never below those of either half": of a list joined from two, however they alternate, each in its own order.
  pub joined_save : {first second whole : List ℕ} → Joined first second whole
      → ((greedy_writing m first).T ≤ (greedy_writing m whole).T) × ((greedy_writing m second).T ≤ (greedy_writing m whole).T)
  joined_save j = (sub_save (joined_first j), sub_save (joined_second j))

  pub joined_read : {first second whole : List ℕ} → Joined first second whole
      → ((lazy_prefetching m first).T ≤ (lazy_prefetching m whole).T) × ((lazy_prefetching m second).T ≤ (lazy_prefetching m whole).T)
  joined_read j = (sub_read (joined_first j), sub_read (joined_second j))

-- One frame (request 2026-08): a list is the frames before it, its card, and the frames behind it.
module _ (m : ℕ) (before behind : List ℕ) (pool : 1 ≤ m) where
  -- "Adding one frame anywhere adds none or one."
  pub insert_save : (card : ℕ) → NoneOrOneMore (greedy_writing m (before ++ behind)).T (greedy_writing m (before ++ (card ∷ behind))).T
  insert_save card = frames.save_insert m before behind card pool

  pub insert_read : (card : ℕ) → NoneOrOneMore (lazy_prefetching m (before ++ behind)).T (lazy_prefetching m (before ++ (card ∷ behind))).T
  insert_read = frames.read_insert m before behind pool

  -- "changing one frame's card moves the fewest cycles by at most one", up or down.
  pub change_save : (card other : ℕ)
      → AtMostOneApart (greedy_writing m (before ++ (card ∷ behind))).T (greedy_writing m (before ++ (other ∷ behind))).T
  change_save = frames.save_change m before behind pool

  pub change_read : (card other : ℕ)
      → AtMostOneApart (lazy_prefetching m (before ++ (card ∷ behind))).T (lazy_prefetching m (before ++ (other ∷ behind))).T
  change_read = frames.read_change m before behind pool

-- The loads of the cards (request 2026-06).
module _ (cards cycles : List ℕ) (ok : Proper cards cycles) where
  -- No card has more frames than a schedule, of reads or saves and for whichever pool, has cycles;
  pub load_at_most : (c : ℕ) → load cards (length cards) c ≤ cycles_in cycles
  load_at_most = loads.load_at_most cards cycles ok

  -- so no schedule has fewer cycles than the fullest card has frames.
  pub fullest_at_most : (D : ℕ) → fullest D cards ≤ cycles_in cycles
  fullest_at_most = loads.fullest_at_most cards cycles ok

-- Cards that no frame is on change nothing of it.
pub fullest_wider :
    (D E : ℕ) (cards : List ℕ) → D ≤ E → ((i : ℕ) → i < length cards → card_of cards i < D) → fullest E cards ≡ fullest D cards
fullest_wider = loads.fullest_wider

-- A list on D cards that uses them evenly, and a pool above (D - 1) × S.
module _
    (D S m : ℕ) (cards : List ℕ) (low : (i : ℕ) → i < length cards → card_of cards i < D) (room : (D - 1) * S < m) where
  -- The schedule by rank is a correct save schedule, as long as the load of the fullest card;
  pub rank_correct : Even D S cards → CorrectSave m cards (by_rank cards) × (cycles_in (by_rank cards) ≡ fullest D cards)
  rank_correct even = (ranks.rank_correct D S cards low even m room, ranks.rank_length D S cards low even m room)

  -- by ranks counted from the end of the list and turned round, a read schedule.
  pub rank_correct_read : Even D S (reverse cards) → CorrectRead m cards (turn_round (fullest D cards) (by_rank (reverse cards)))
  rank_correct_read even = ranks.rank_correct_read D S cards low even m room

  -- So greedy_writing and lazy prefetching take exactly the load of the fullest card.
  pub even_save : Even D S cards → (greedy_writing m cards).T ≡ fullest D cards
  even_save even = ranks.save_fullest D S cards low even m room

  pub even_read : Even D S (reverse cards) → (lazy_prefetching m cards).T ≡ fullest D cards
  even_read even = ranks.read_fullest D S cards low even m room

-- That load is little above an equal share.
pub even_bound :
    (D S : ℕ) (cards : List ℕ) → ((i : ℕ) → i < length cards → card_of cards i < D) → Even D S cards
    → D * fullest D cards ≤ length cards + (D - 1) * S
even_bound D S cards low even = ranks.fullest_bound D S cards low even

-- Demand 3 leaves one T: what is said of the T of greedy_writing and of lazy prefetching holds of every plan that meets it.
module _ (m : ℕ) (cards cycles : List ℕ) (T : ℕ) (pool : 1 ≤ m) where
  pub save_demand_T : SaveDemand m cards cycles T → T ≡ (greedy_writing m cards).T
  save_demand_T = demands.save_T m cards cycles T pool

  pub read_demand_T : ReadDemand m cards cycles T → T ≡ (lazy_prefetching m cards).T
  read_demand_T = demands.read_T m cards cycles T pool

-- The table of cases.
pub cases_hold : map computed cases ≡ map expected cases
cases_hold = table.cases_hold

-- A correct save schedule that is not oldest first: `save_fewest` speaks of such schedules too.
pub newest_first_correct : CorrectSave 2 (0 ∷ 0 ∷ []) (2 ∷ 1 ∷ [])
newest_first_correct = table.newest_first_correct
