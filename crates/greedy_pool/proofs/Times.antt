-- How many times a position stands in a list: in one made of two, in one that a function gives, in the pool; and in a log.
-- Assumes nothing.
use Prim.Native.Nat.{ℕ, zero, suc, ◌+◌, ◌<◌}
use mathlib.Core.Path.{◌≡◌, refl, ◌∙◌}
use mathlib.Core.Bool.{◌&&◌, and-true, and-false}
use mathlib.Core.List.{List, [], ◌∷◌, ◌++◌}
use native.Mathlib.Omega.{arith}
use lib.Dec.{eqb}
use Rattle.counting.specs.Count.{bit, how_many, tabulate}
use Rattle.schedule.specs.Greedy.{waits}
use Rattle.counting.proofs.Bits.{by_cases}
use Rattle.counting.proofs.Sums.{one_at}
use Rattle.greedy_pool.specs.Pool.{waiting_among}
use Rattle.greedy_pool.specs.Log.{times, times_in}
use Rattle.greedy_pool.proofs.Places.{waiting_more, waiting_same}

times_append : (i : ℕ) (l m : List ℕ) → times i (l ++ m) ≡ times i l + times i m
times_append i [] m = omega arith
times_append i (x ∷ l) m = omega (arith, times_append i l m)

pub times_tabulate : (i n : ℕ) (f : ℕ → ℕ) → times i (tabulate n f) ≡ how_many n (λ k. eqb (f k) i)
times_tabulate i zero f = refl
times_tabulate i (suc n) f = omega (arith, times_append i (tabulate n f) (f n ∷ []), times_tabulate i n f)

pub times_in_snoc : (i : ℕ) (log : List (List ℕ)) (entries : List ℕ) → times_in i (log ++ (entries ∷ [])) ≡ times_in i log + times i entries
times_in_snoc i [] entries = omega arith
times_in_snoc i (first ∷ log) entries = omega (arith, times_in_snoc i log entries)

-- a frame stands in the pool once, or it does not wait
times_waiting : (cycles : List ℕ) (i n : ℕ) → times i (waiting_among cycles n) ≡ how_many n (λ j. eqb j i && waits cycles j)
times_waiting cycles i zero = refl
times_waiting cycles i (suc n) =
    by_cases (waits cycles n)
    (λ e.
    rw (waiting_more cycles n e, times_append i (waiting_among cycles n) (n ∷ []), e, and-true (eqb n i))
    (omega (arith, times_waiting cycles i n)))
    (λ e. rw (waiting_same cycles n e, e, and-false (eqb n i)) (omega (arith, times_waiting cycles i n)))

pub times_pool : (cycles : List ℕ) (i n : ℕ) → i < n → times i (waiting_among cycles n) ≡ bit (waits cycles i)
times_pool cycles i n l = times_waiting cycles i n ∙ one_at n i (waits cycles) l
