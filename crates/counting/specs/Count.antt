-- Counting by position: sums over the numbers below n, how many of them pass a test, the least that does, the list of a function's values;
-- and a list written into a buffer.
-- Assumes nothing.
use Rattle.std.specs.Prelude.{ℕ, zero, suc, ◌+◌, max, Bool, true, false, cond, List, [], ◌∷◌, ◌++◌, length, drop}

-- 1 where the test passes, else 0
abbrev pub bit : Bool → ℕ
bit true = 1
bit false = 0

-- f 0 + f 1 + .. + f (n - 1)
abbrev pub sum : ℕ → (ℕ → ℕ) → ℕ
sum zero f = 0
sum (suc n) f = sum n f + f n

-- how many of the numbers below n pass the test
abbrev pub how_many : ℕ → (ℕ → Bool) → ℕ
how_many n test = sum n (λ i. bit (test i))

-- the least number below n that passes the test; n where none does
abbrev pub least : ℕ → (ℕ → Bool) → ℕ
least zero test = 0
least (suc n) test = cond (test 0) 0 (suc (least n (λ i. test (suc i))))

-- the list f 0, f 1, .., f (n - 1)
abbrev pub tabulate : ℕ → (ℕ → ℕ) → List ℕ
tabulate zero f = []
tabulate (suc n) f = tabulate n f ++ (f n ∷ [])

-- the largest number of a list, 0 for the empty one
abbrev pub largest : List ℕ → ℕ
largest [] = 0
largest (x ∷ l) = max x (largest l)

-- a list written over the front of a buffer; later places keep their content
abbrev pub written : List ℕ → List ℕ → List ℕ
written l before = l ++ drop (length l) before
