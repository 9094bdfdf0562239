-- The log of a plan through greedy_writing's steps: a frame that enters changes nothing in it, and a cycle adds what it writes.
-- Assumes nothing.
use Prim.Native.Nat.{ℕ, zero, suc, ◌≤◌, ◌<◌}
use mathlib.Core.Path.{◌≡◌, refl, ap}
use mathlib.Core.Bool.{Bool, true, false, cond, and-false}
use mathlib.Core.List.{List, [], ◌∷◌, ◌++◌}
use native.Mathlib.Omega.{arith}
use lib.Dec.{eqb}
use lib.ListN.{length}
use borrow.Author.Tests.{ne_eqb, eqb-true}
use Rattle.counting.specs.Frames.{card_of}
use Rattle.schedule.specs.Schedule.{cycle_of}
use Rattle.schedule.specs.Greedy.{Plan, waits, enter, is_first, one_cycle}
use Rattle.counting.proofs.Bits.{by_cases}
use Rattle.counting.proofs.Lists.{tabulate_cong}
use Rattle.header.specs.Limits.{max_cards}
use Rattle.greedy_pool.specs.Log.{frame_among, entries_of, cycles_up_to, log_of}
use Rattle.greedy_pool.proofs.Next.{enter_length, enter_old, enter_new, next_length, next_cycle, next_stays}

-- what cycle c writes depends on which frames have cycle c
frame_cong : (cards cycles cycles' : List ℕ) (c k n : ℕ) → ((i : ℕ) → i < n → eqb (cycle_of cycles i) c ≡ eqb (cycle_of cycles' i) c)
    → frame_among cards cycles c k n ≡ frame_among cards cycles' c k n
frame_cong cards cycles cycles' c k zero h = refl
frame_cong cards cycles cycles' c k (suc n) h = rw (h n (omega arith), frame_cong cards cycles cycles' c k n (λ i l. h i (omega arith)))

-- and what cycles 1 to t write, on what each of them does
log_cong : (cards cycles cycles' : List ℕ) (t : ℕ)
    → ((c k : ℕ) → 1 ≤ c → c ≤ t → frame_among cards cycles c k (length cycles) ≡ frame_among cards cycles' c k (length cycles'))
    → cycles_up_to cards cycles t ≡ cycles_up_to cards cycles' t
log_cong cards cycles cycles' zero h = refl
log_cong cards cycles cycles' (suc t) h =
    let last : entries_of cards cycles (suc t) ≡ entries_of cards cycles' (suc t) =
    tabulate_cong max_cards (λ k. frame_among cards cycles (suc t) k (length cycles)) (λ k. frame_among cards cycles' (suc t) k (length cycles'))
    (λ k l. h (suc t) k (omega arith) (omega arith)) in
    rw (log_cong cards cycles cycles' t (λ c k a b. h c k a (omega arith)), last)

-- a frame that enters has no cycle
frame_enter : (cards : List ℕ) (p : Plan) (c k : ℕ) → 1 ≤ c
    → frame_among cards (enter p).cycles c k (length (enter p).cycles) ≡ frame_among cards p.cycles c k (length p.cycles)
frame_enter cards p c k h =
    rw (enter_length p, enter_new p, ne_eqb 0 c (λ e. omega arith), and-false (eqb (card_of cards (length p.cycles)) k))
    (frame_cong cards (enter p).cycles p.cycles c k (length p.cycles) (λ i l. rw (enter_old p i l)))

pub entries_enter : (cards : List ℕ) (p : Plan) (c : ℕ) → 1 ≤ c → entries_of cards (enter p).cycles c ≡ entries_of cards p.cycles c
entries_enter cards p c h =
    tabulate_cong max_cards (λ k. frame_among cards (enter p).cycles c k (length (enter p).cycles))
    (λ k. frame_among cards p.cycles c k (length p.cycles))
    (λ k l. frame_enter cards p c k h)

pub log_enter : (cards : List ℕ) (p : Plan) → log_of cards (enter p) ≡ log_of cards p
log_enter cards p = log_cong cards (enter p).cycles p.cycles p.T (λ c k a b. frame_enter cards p c k a)

-- a frame that waits gets cycle t + 1 or none; any other keeps its cycle
other_cycle : (b : Bool) (x t c : ℕ) → x ≡ 0 → 1 ≤ c → c ≤ t → eqb (cond b (suc t) x) c ≡ eqb x c
other_cycle true x t c e l h = rw (ne_eqb (suc t) c (λ q. omega arith), ne_eqb x c (λ q. omega arith))
other_cycle false x t c e l h = refl

same_before : (cards : List ℕ) (p : Plan) (c i : ℕ) → 1 ≤ c → c ≤ p.T → i < length p.cycles
    → eqb (cycle_of (one_cycle cards p).cycles i) c ≡ eqb (cycle_of p.cycles i) c
same_before cards p c i a b l =
    by_cases (waits p.cycles i)
    (λ e.
    let z : cycle_of p.cycles i ≡ 0 = eqb-true (cycle_of p.cycles i) 0 e in
    rw (next_cycle cards p i l) (other_cycle (is_first cards p.cycles i) (cycle_of p.cycles i) p.T c z a b))
    (λ e. rw (next_stays cards p i l e))

frame_cycle : (cards : List ℕ) (p : Plan) (c k : ℕ) → 1 ≤ c → c ≤ p.T
    → frame_among cards (one_cycle cards p).cycles c k (length (one_cycle cards p).cycles) ≡ frame_among cards p.cycles c k (length p.cycles)
frame_cycle cards p c k a b =
    rw (next_length cards p)
    (frame_cong cards (one_cycle cards p).cycles p.cycles c k (length p.cycles) (λ i l. same_before cards p c i a b l))

pub log_cycle : (cards : List ℕ) (p : Plan)
    → log_of cards (one_cycle cards p) ≡ log_of cards p ++ (entries_of cards (one_cycle cards p).cycles (suc p.T) ∷ [])
log_cycle cards p =
    ap (λ l. l ++ (entries_of cards (one_cycle cards p).cycles (suc p.T) ∷ []))
    (log_cong cards (one_cycle cards p).cycles p.cycles p.T (λ c k a b. frame_cycle cards p c k a b))
