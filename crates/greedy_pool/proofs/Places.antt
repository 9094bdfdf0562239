-- The frames that wait, as a list: how long it is, what stands in it, and tests counted at its places.
-- Assumes nothing.
use Prim.Native.Nat.{ℕ, zero, suc, ◌<◌}
use mathlib.Core.Path.{◌≡◌, refl, ap, ◌∙◌}
use mathlib.Core.Bool.{Bool, true, false, ◌&&◌, and-true, and-false}
use mathlib.Core.List.{List, [], ◌∷◌, ◌++◌, append-nil}
use native.Mathlib.Omega.{arith}
use lib.Dec.{eqb}
use lib.ListN.{length, get_or}
use Rattle.counting.specs.Count.{bit, how_many}
use Rattle.counting.specs.Frames.{card_of}
use Rattle.schedule.specs.Greedy.{waits}
use Rattle.counting.proofs.Bits.{by_cases}
use Rattle.counting.proofs.Sums.{sum_cong}
use Rattle.greedy_pool.specs.Pool.{is_oldest, waiting_among}
use Rattle.counting.proofs.Snoc.{length_snoc, count_snoc, Tabled, tabled_front, tabled_last}

-- one frame more: it waits and stands at the end, or the list stays
pub waiting_more : (cycles : List ℕ) (n : ℕ) → waits cycles n ≡ true → waiting_among cycles (suc n) ≡ waiting_among cycles n ++ (n ∷ [])
waiting_more cycles n e = rw e

pub waiting_same : (cycles : List ℕ) (n : ℕ) → waits cycles n ≡ false → waiting_among cycles (suc n) ≡ waiting_among cycles n
waiting_same cycles n e = rw e (append-nil (waiting_among cycles n))

pub waiting_length : (cycles : List ℕ) (n : ℕ) → length (waiting_among cycles n) ≡ how_many n (waits cycles)
waiting_length cycles zero = refl
waiting_length cycles (suc n) =
    by_cases (waits cycles n)
    (λ e. rw (waiting_more cycles n e) (omega (arith, length_snoc (waiting_among cycles n) n, waiting_length cycles n, ap bit e)))
    (λ e. rw (waiting_same cycles n e) (omega (arith, waiting_length cycles n, ap bit e)))

pub waiting_cong : (cycles cycles' : List ℕ) (n : ℕ) → ((i : ℕ) → i < n → waits cycles i ≡ waits cycles' i)
    → waiting_among cycles n ≡ waiting_among cycles' n
waiting_cong cycles cycles' zero h = refl
waiting_cong cycles cycles' (suc n) h = rw (h n (omega arith), waiting_cong cycles cycles' n (λ i l. h i (omega arith)))

-- counted at the places of the list, a test passes as often as it does of the frames that wait
pub count_waiting : (cycles : List ℕ) (test : ℕ → Bool) (n : ℕ)
    → how_many (length (waiting_among cycles n)) (λ j. test (get_or (waiting_among cycles n) j 0)) ≡ how_many n (λ i. test i && waits cycles i)
count_waiting cycles test zero = refl
count_waiting cycles test (suc n) =
    by_cases (waits cycles n)
    (λ e. rw (waiting_more cycles n e, count_snoc test (waiting_among cycles n) n, e, and-true (test n)) (omega (arith, count_waiting cycles test n)))
    (λ e. rw (waiting_same cycles n e, e, and-false (test n)) (omega (arith, count_waiting cycles test n)))

-- the place of frame n, where c shows the cards: it is its card's first there just where no frame of its card waits before it
pub place_oldest : (cards cycles c : List ℕ) (n : ℕ) → Tabled c (card_of cards) (waiting_among cycles n ++ (n ∷ []))
    → is_oldest c (length (waiting_among cycles n)) ≡ eqb (how_many n (λ j. eqb (card_of cards j) (card_of cards n) && waits cycles j)) 0
place_oldest cards cycles c n h =
    let at : Tabled c (card_of cards) (waiting_among cycles n) = tabled_front c (card_of cards) (waiting_among cycles n) n h in
    ap (λ s. eqb s 0)
    (sum_cong (length (waiting_among cycles n)) (λ j. bit (eqb (card_of c j) (card_of c (length (waiting_among cycles n)))))
    (λ j. bit (eqb (card_of cards (get_or (waiting_among cycles n) j 0)) (card_of cards n)))
    (λ j l. rw (at j l, tabled_last c (card_of cards) (waiting_among cycles n) n h))
    ∙ count_waiting cycles (λ i. eqb (card_of cards i) (card_of cards n)) n)
