-- What greedy_writing's steps do to the pool of a plan: a frame enters and stands at its end; a cycle writes each card's first frame and leaves
-- the others, in their order.
-- Assumes nothing.
use Prim.Native.Nat.{ℕ, zero, suc, ◌≤◌, ◌<◌}
use mathlib.Core.Path.{◌≡◌, refl}
use mathlib.Core.Bool.{false, and-false}
use mathlib.Core.List.{List, [], ◌∷◌, ◌++◌, map}
use native.Mathlib.Omega.{arith}
use lib.Dec.{eqb}
use lib.ListN.{length}
use borrow.Author.Tests.{ne_eqb}
use Rattle.counting.specs.Frames.{card_of}
use Rattle.schedule.specs.Schedule.{cycle_of}
use Rattle.schedule.specs.Greedy.{Plan, waits, in_pool, enter, one_cycle}
use Rattle.counting.proofs.Bits.{by_cases}
use Rattle.greedy_pool.specs.Pool.{left, writes, waiting_among, pool_of}
use Rattle.greedy_pool.specs.Log.{frame_among}
use Rattle.counting.proofs.Snoc.{length_snoc, Tabled, tabled_front, tabled_last, left_more}
use Rattle.greedy_pool.proofs.Places.{waiting_more, waiting_same, waiting_length, waiting_cong, place_oldest}
use Rattle.greedy_pool.proofs.Next.{enter_length, enter_old, enter_new, none_before, next_length, next_stays, next_waits, next_written}

pub pool_length : (cycles : List ℕ) → length (pool_of cycles) ≡ in_pool cycles
pool_length cycles = waiting_length cycles (length cycles)

pub pool_enter : (p : Plan) → pool_of (enter p).cycles ≡ pool_of p.cycles ++ (length p.cycles ∷ [])
pool_enter p =
    let same : waiting_among (enter p).cycles (length p.cycles) ≡ pool_of p.cycles =
    waiting_cong (enter p).cycles p.cycles (length p.cycles) (λ i l. rw (enter_old p i l)) in
    rw (enter_length p, enter_new p, same)

module _ (cards : List ℕ) (p : Plan) (c v : List ℕ) where
  abbrev L : ℕ
  L = length p.cycles

  -- the frames that wait, before the cycle and after it
  abbrev W : ℕ → List ℕ
  W n = waiting_among p.cycles n

  abbrev W' : ℕ → List ℕ
  W' n = waiting_among (one_cycle cards p).cycles n

  left_among : (f : ℕ → ℕ) (n : ℕ) → n ≤ L → Tabled c (card_of cards) (W n) → Tabled v f (W n) → left c v (length (W n)) ≡ map f (W' n)
  left_among f zero h s t = refl
  left_among f (suc n) h s t =
      by_cases (waits p.cycles n)
      (λ e.
      let s' : Tabled c (card_of cards) (W n ++ (n ∷ [])) = rw (waiting_more p.cycles n e) at s in
      let t' : Tabled v f (W n ++ (n ∷ [])) = rw (waiting_more p.cycles n e) at t in
      let ih : left c v (length (W n)) ≡ map f (W' n) =
      left_among f n (omega arith) (tabled_front c (card_of cards) (W n) n s') (tabled_front v f (W n) n t') in
      rw (
        waiting_more p.cycles n e,
        length_snoc (W n) n,
        place_oldest cards p.cycles c n s',
        tabled_last v f (W n) n t',
        ih,
        next_waits cards p n h e,
      )
      (left_more f (W' n) n (none_before cards p.cycles n)))
      (λ e.
      let gone : waits (one_cycle cards p).cycles n ≡ false = rw (next_stays cards p n h e) e in
      rw (waiting_same p.cycles n e, waiting_same (one_cycle cards p).cycles n gone)
      (left_among f n (omega arith) (rw (waiting_same p.cycles n e) at s) (rw (waiting_same p.cycles n e) at t)))

  writes_among : (k n : ℕ) → n ≤ L → ((i : ℕ) → i < L → cycle_of p.cycles i ≤ p.T)
      → Tabled c (card_of cards) (W n) → Tabled v (λ i. i) (W n)
      → writes k c v (length (W n)) ≡ frame_among cards (one_cycle cards p).cycles (suc p.T) k n
  writes_among k zero h made s t = refl
  writes_among k (suc n) h made s t =
      by_cases (waits p.cycles n)
      (λ e.
      let s' : Tabled c (card_of cards) (W n ++ (n ∷ [])) = rw (waiting_more p.cycles n e) at s in
      let t' : Tabled v (λ i. i) (W n ++ (n ∷ [])) = rw (waiting_more p.cycles n e) at t in
      let ih : writes k c v (length (W n)) ≡ frame_among cards (one_cycle cards p).cycles (suc p.T) k n =
      writes_among k n (omega arith) made (tabled_front c (card_of cards) (W n) n s') (tabled_front v (λ i. i) (W n) n t') in
      rw (
        waiting_more p.cycles n e,
        length_snoc (W n) n,
        place_oldest cards p.cycles c n s',
        tabled_last c (card_of cards) (W n) n s',
        tabled_last v (λ i. i) (W n) n t',
        ih,
        next_written cards p n h e,
      ))
      (λ e.
      let other : eqb (cycle_of (one_cycle cards p).cycles n) (suc p.T) ≡ false =
      rw (next_stays cards p n h e) (ne_eqb (cycle_of p.cycles n) (suc p.T) (λ q. omega (arith, made n h))) in
      rw (waiting_same p.cycles n e, other, and-false (eqb (card_of cards n) k))
      (writes_among k n (omega arith) made (rw (waiting_same p.cycles n e) at s) (rw (waiting_same p.cycles n e) at t)))

-- c has the cards of the pool's frames and v a value of each: the values that the cycle leaves
pub pool_cycle : (cards : List ℕ) (p : Plan) (c v : List ℕ) (f : ℕ → ℕ)
    → Tabled c (card_of cards) (pool_of p.cycles) → Tabled v f (pool_of p.cycles)
    → left c v (length (pool_of p.cycles)) ≡ map f (pool_of (one_cycle cards p).cycles)
pool_cycle cards p c v f s t = rw (next_length cards p) (left_among cards p c v f (length p.cycles) (omega arith) s t)

-- c has the cards of the pool's frames and v their positions: what card k writes
pub pool_writes : (cards : List ℕ) (p : Plan) (c v : List ℕ) (k : ℕ) → ((i : ℕ) → i < length p.cycles → cycle_of p.cycles i ≤ p.T)
    → Tabled c (card_of cards) (pool_of p.cycles) → Tabled v (λ i. i) (pool_of p.cycles)
    → writes k c v (length (pool_of p.cycles)) ≡ frame_among cards (one_cycle cards p).cycles (suc p.T) k (length p.cycles)
pool_writes cards p c v k made s t = writes_among cards p c v k (length p.cycles) (omega arith) made s t
