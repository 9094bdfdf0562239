-- What is left of a pool after a cycle, and what each card writes, as lists: lengths and bounds, and where a card writes nothing.
-- Assumes nothing.
use Prim.Native.Nat.{ℕ, zero, suc, ◌+◌, ◌≤◌, ◌<◌}
use mathlib.Core.Path.{◌≡◌, refl, sym, ◌∙◌}
use mathlib.Core.Bool.{false, not, cond}
use mathlib.Core.List.{List, [], ◌∷◌}
use native.Mathlib.Omega.{arith}
use native.Mathlib.Nat.{add-zero}
use native.Mathlib.Decide.{ℕ_discrete}
use lib.Dec.{eqb}
use lib.ListN.{length, get_or, length-append}
use borrow.Author.Tests.{eq-eqb, ne_eqb}
use Rattle.counting.specs.Count.{how_many}
use Rattle.counting.specs.Frames.{card_of}
use Rattle.counting.proofs.Bits.{by_cases, bit_le_one}
use Rattle.counting.proofs.Sums.{how_many_le}
use Rattle.greedy_pool.specs.Pool.{none, is_oldest, left, writes}
use Rattle.counting.proofs.Snoc.{kept_length, bound_kept}

left_length : (c v : List ℕ) (n : ℕ) → length (left c v n) ≡ how_many n (λ i. not (is_oldest c i))
left_length c v zero = refl
left_length c v (suc n) =
    omega (
      arith,
      length-append (left c v n) (cond (is_oldest c n) [] (get_or v n 0 ∷ [])),
      kept_length (is_oldest c n) (get_or v n 0),
      left_length c v n,
    )

pub left_no_longer : (c v : List ℕ) (n : ℕ) → length (left c v n) ≤ n
left_no_longer c v n = omega (arith, left_length c v n, how_many_le n (λ i. not (is_oldest c i)))

pub left_same_length : (c v w : List ℕ) (n : ℕ) → length (left c v n) ≡ length (left c w n)
left_same_length c v w n = left_length c v n ∙ sym (left_length c w n)

-- the frame at place 0 is its card's first
pub left_shorter : (c v : List ℕ) (n : ℕ) → 1 ≤ n → length (left c v n) < n
left_shorter c v zero h = omega arith
left_shorter c v (suc zero) h = omega arith
left_shorter c v (suc (suc n)) h =
    omega (
      arith,
      left_shorter c v (suc n) (omega arith),
      left_length c v (suc n),
      left_length c v (suc (suc n)),
      bit_le_one (not (is_oldest c (suc n))),
    )

pub left_all : (c v : List ℕ) (n b : ℕ) → ((i : ℕ) → i < n → get_or v i 0 < b) → (i : ℕ) → i < length (left c v n) → get_or (left c v n) i 0 < b
left_all c v zero b h i l = omega arith
left_all c v (suc n) b h i l =
    bound_kept (left c v n) (is_oldest c n) (get_or v n 0) b (left_all c v n b (λ j k. h j (omega arith))) (h n (omega arith)) i l

-- a card writes nothing just where it has no frame in the pool
none_here : (h y w : ℕ) → y < none → eqb w none ≡ eqb h 0 → eqb (cond (eqb h 0) y w) none ≡ eqb (h + 1) 0
none_here h y w l ih =
    let s : eqb (h + 1) 0 ≡ false = ne_eqb (h + 1) 0 (λ q. omega arith) in
    by_cases (eqb h 0) (λ q. rw (q, s) (ne_eqb y none (λ r. omega arith))) (λ q. rw (q, s) (ih ∙ q))

pub writes_none : (k : ℕ) (c v : List ℕ) (n : ℕ) → ((i : ℕ) → i < n → get_or v i 0 < none)
    → eqb (writes k c v n) none ≡ eqb (how_many n (λ j. eqb (card_of c j) k)) 0
writes_none k c v zero h = refl
writes_none k c v (suc n) h =
    let ih : eqb (writes k c v n) none ≡ eqb (how_many n (λ j. eqb (card_of c j) k)) 0 = writes_none k c v n (λ i l. h i (omega arith)) in
    elim (ℕ_discrete (card_of c n) k) [
      | yes e ↦
          rw (e, eq-eqb k k refl) (none_here (how_many n (λ j. eqb (card_of c j) k)) (get_or v n 0) (writes k c v n) (h n (omega arith)) ih)
      | no e ↦ rw (ne_eqb (card_of c n) k e, add-zero) ih
    ]
