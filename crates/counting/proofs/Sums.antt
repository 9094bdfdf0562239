-- Laws of `sum` and `how_many`.
-- Assumes nothing.
use Prim.Native.Nat.{ℕ, zero, suc, ◌+◌, ◌-◌, ◌*◌, ◌≤◌, ◌<◌, min, zero-le}
use mathlib.Core.Path.{◌≡◌, refl, sym, ap, ◌∙◌}
use mathlib.Core.Bool.{Bool, true, false, ◌&&◌, and-true, and-false}
use native.Mathlib.Omega.{arith}
use native.Mathlib.Decide.{dec_le, dec_lt, ℕ_discrete}
use native.Mathlib.Nat.{add-zero, zero-mul, suc-mul}
use lib.Dec.{eqb, ltb, eqb-zero-suc, eqb-suc-suc, eqb-suc-zero}
use borrow.Author.Tests.{eq-eqb, ne_eqb, eqb-true, le-ltb, lt-ltb}
use Rattle.counting.specs.Count.{bit, sum, how_many}
use Rattle.counting.proofs.Bits.{by_cases, bit_le_one}

-- term by term
pub sum_mono : (n : ℕ) (f g : ℕ → ℕ) → ((i : ℕ) → i < n → f i ≤ g i) → sum n f ≤ sum n g
sum_mono zero f g h = zero-le
sum_mono (suc n) f g h =
    omega (arith, h n (omega arith), sum_mono n f g (λ i l. h i (omega arith)))

pub sum_cong : (n : ℕ) (f g : ℕ → ℕ) → ((i : ℕ) → i < n → f i ≡ g i) → sum n f ≡ sum n g
sum_cong zero f g h = refl
sum_cong (suc n) f g h =
    omega (arith, h n (omega arith), sum_cong n f g (λ i l. h i (omega arith)))

pub sum_add : (n : ℕ) (f g : ℕ → ℕ) → sum n (λ i. f i + g i) ≡ sum n f + sum n g
sum_add zero f g = refl
sum_add (suc n) f g = omega (arith, sum_add n f g)

pub sum_zero : (n : ℕ) → sum n (λ i. 0) ≡ 0
sum_zero zero = refl
sum_zero (suc n) = omega (arith, sum_zero n)

pub sum_one : (n : ℕ) → sum n (λ i. 1) ≡ n
sum_one zero = refl
sum_one (suc n) = omega (arith, sum_one n)

pub sum_same : (n k : ℕ) → sum n (λ i. k) ≡ n * k
sum_same zero k = sym (zero-mul k)
sum_same (suc n) k = omega (arith, sum_same n k, suc-mul n k)

pub sum_swap : (n k : ℕ) (f : ℕ → ℕ → ℕ) → sum n (λ i. sum k (λ j. f i j)) ≡ sum k (λ j. sum n (λ i. f i j))
sum_swap zero k f = sym (sum_zero k)
sum_swap (suc n) k f =
    omega (arith, sum_swap n k f, sum_add k (λ j. sum n (λ i. f i j)) (λ j. f n j))

-- one term
pub sum_term_le : (n : ℕ) (f : ℕ → ℕ) (i : ℕ) → i < n → f i ≤ sum n f
sum_term_le zero f i h = omega arith
sum_term_le (suc n) f i h =
    elim (dec_lt i n) [
      | yes l ↦ omega (arith, sum_term_le n f i l)
      | no l ↦ (let e : i ≡ n = omega arith in rw e (omega arith))
    ]

-- terms of at most k, and one of them 0
pub all_but_one : (n k x : ℕ) (f : ℕ → ℕ) → x < n → f x ≡ 0 → ((i : ℕ) → i < n → f i ≤ k) → sum n f ≤ (n - 1) * k
all_but_one n k x f l z h =
    let parts : sum n f + sum n (λ i. k - f i) ≡ n * k =
    sym (sum_add n f (λ i. k - f i)) ∙ sum_cong n (λ i. f i + (k - f i)) (λ i. k) (λ i j. omega (arith, h i j)) ∙ sum_same n k in
    let one : suc (n - 1) ≡ n = omega arith in
    let less : n * k ≡ (n - 1) * k + k = rw one at (suc-mul (n - 1) k) in
    omega (arith, sum_term_le n (λ i. k - f i) x l)

-- more terms
pub sum_longer : (n k : ℕ) (f : ℕ → ℕ) → n ≤ k → sum n f ≤ sum k f
sum_longer n zero f h = let e : n ≡ 0 = omega arith in rw e (omega arith)
sum_longer n (suc k) f h =
    elim (dec_le n k) [
      | yes l ↦ omega (arith, sum_longer n k f l)
      | no l ↦ (let e : n ≡ suc k = omega arith in rw e (omega arith))
    ]

-- f is at most g before k, and nothing from there on
pub sum_cut : (n k : ℕ) (f g : ℕ → ℕ) → ((i : ℕ) → i < n → i < k → f i ≤ g i) → ((i : ℕ) → i < n → k ≤ i → f i ≡ 0)
    → sum n f ≤ sum (min n k) g
sum_cut zero k f g h z = zero-le
sum_cut (suc n) k f g h z = go (dec_lt n k) (sum_cut n k f g (λ i l. h i (omega arith)) (λ i l. z i (omega arith)))
  where
    go : Dec (n < k) → sum n f ≤ sum (min n k) g → sum n f + f n ≤ sum (min (suc n) k) g
    go (yes l) ih =
        let a : min (suc n) k ≡ suc n = omega arith in
        let b : min n k ≡ n = omega arith in
        let ih' : sum n f ≤ sum n g = rw b at ih in
        rw a (omega (arith, h n (omega arith) l))
    go (no l) ih =
        let a : min (suc n) k ≡ min n k = omega arith in
        rw a (omega (arith, z n (omega arith) (omega arith)))

-- the first n terms apart
pub sum_split : (n k : ℕ) (f : ℕ → ℕ) → sum (n + k) f ≡ sum n f + sum k (λ i. f (n + i))
sum_split n zero f = rw (add-zero n) (omega arith)
sum_split n (suc k) f = let e : n + suc k ≡ suc (n + k) = omega arith in rw e (omega (arith, sum_split n k f))

-- the first term apart, and the terms from the last to the first
pub sum_front : (n : ℕ) (f : ℕ → ℕ) → sum (suc n) f ≡ f 0 + sum n (λ i. f (suc i))
sum_front zero f = omega arith
sum_front (suc n) f = omega (arith, sum_front n f)

pub sum_reverse : (n : ℕ) (f : ℕ → ℕ) → sum n f ≡ sum n (λ i. f (n - suc i))
sum_reverse zero f = refl
sum_reverse (suc n) f =
    let last : suc n - 1 ≡ n = omega arith in
    omega (
      arith,
      sum_reverse n f,
      sum_front n (λ i. f (suc n - suc i)),
      ap f last,
      sum_cong n (λ i. f (suc n - suc (suc i))) (λ i. f (n - suc i)) (λ i l. ap f (omega arith)),
    )

pub how_many_le : (n : ℕ) (t : ℕ → Bool) → how_many n t ≤ n
how_many_le zero t = zero-le
how_many_le (suc n) t = omega (arith, how_many_le n t, bit_le_one (t n))

-- at most one of the tests passes
pub at_most_one : (n : ℕ) (t : ℕ → Bool) → ((i j : ℕ) → i < j → j < n → t i ≡ true → t j ≡ true → ⊥) → how_many n t ≤ 1
at_most_one zero t h = zero-le
at_most_one (suc n) t h = go (t n) refl (at_most_one n t (λ i j l k. h i j l (omega arith)))
  where
    none : t n ≡ true → (i : ℕ) → i < n → bit (t i) ≤ 0
    none e i l = by_cases (t i) (λ q. absurd (h i n l (omega arith) q e)) (λ q. rw q zero-le)

    go : (b : Bool) → t n ≡ b → how_many n t ≤ 1 → how_many n t + bit b ≤ 1
    go true e ih = omega (arith, sum_mono n (λ i. bit (t i)) (λ i. 0) (none e), sum_zero n)
    go false e ih = omega arith

-- the numbers below n that equal x: at most one, and one where x is below n
pub equal_at_most_one : (n x : ℕ) → how_many n (λ i. eqb i x) ≤ 1
equal_at_most_one n x = at_most_one n (λ i. eqb i x) (λ i j l k p q. omega (arith, eqb-true i x p, eqb-true j x q))

pub equal_one : (n x : ℕ) → x < n → how_many n (λ i. eqb x i) ≡ 1
equal_one n x h =
    omega (
      arith,
      at_most_one n (λ i. eqb x i) (λ i j l k p q. omega (arith, eqb-true x i p, eqb-true x j q)),
      sum_term_le n (λ i. bit (eqb x i)) x h,
      ap bit (eq-eqb x x refl),
    )

-- the numbers that are below h
pub below_at_most : (n h : ℕ) → how_many n (λ i. ltb i h) ≤ h
below_at_most n h =
    omega (
      arith,
      sum_cut n h (λ i. bit (ltb i h)) (λ i. 1) (λ i l k. bit_le_one (ltb i h)) (λ i l k. ap bit (le-ltb i h k)),
      sum_one (min n h),
    )

-- counted card by card, for D cards, and all together
pub on_one_card : (D x : ℕ) (b : Bool) → x < D → sum D (λ c. bit (eqb x c && b)) ≡ bit b
on_one_card D x true h = sum_cong D (λ c. bit (eqb x c && true)) (λ c. bit (eqb x c)) (λ c l. ap bit (and-true (eqb x c))) ∙ equal_one D x h
on_one_card D x false h = sum_cong D (λ c. bit (eqb x c && false)) (λ c. 0) (λ c l. ap bit (and-false (eqb x c))) ∙ sum_zero D

pub over_cards : (n D : ℕ) (card : ℕ → ℕ) (t : ℕ → Bool) → ((i : ℕ) → i < n → card i < D)
    → sum D (λ c. how_many n (λ i. eqb (card i) c && t i)) ≡ how_many n t
over_cards n D card t low =
    sum_swap D n (λ c i. bit (eqb (card i) c && t i))
    ∙ sum_cong n (λ i. sum D (λ c. bit (eqb (card i) c && t i))) (λ i. bit (t i)) (λ i l. on_one_card D (card i) (t i) (low i l))

-- of the tests that pass, exactly one is the first
pub one_is_first : (n : ℕ) (t : ℕ → Bool) → how_many n (λ i. t i && eqb (how_many i t) 0) ≡ min 1 (how_many n t)
one_is_first zero t = omega arith
one_is_first (suc n) t =
    elim (t n) as (λ b. how_many n (λ i. t i && eqb (how_many i t) 0) + bit (b && eqb (how_many n t) 0) ≡ min 1 (how_many n t + bit b)) [
      | false ↦ omega (arith, one_is_first n t)
      | true ↦
          elim (ℕ_discrete (how_many n t) 0) [
            | yes e ↦ rw (eq-eqb (how_many n t) 0 e) (omega (arith, one_is_first n t))
            | no e ↦ rw (ne_eqb (how_many n t) 0 e) (omega (arith, one_is_first n t))
          ]
    ]

pub sum_some : (n : ℕ) (f : ℕ → ℕ) → 1 ≤ sum n f → 1 ≤ sum n (λ i. min 1 (f i))
sum_some zero f h = h
sum_some (suc n) f h =
    elim (dec_le 1 (sum n f)) [ yes l ↦ omega (arith, sum_some n f l) | no l ↦ omega arith ]

pub some_passes : (n : ℕ) (t : ℕ → Bool) → 0 < how_many n t → (i : ℕ) × (i < n) × (t i ≡ true)
some_passes zero t h = absurd (omega arith)
some_passes (suc n) t h =
    by_cases (t n)
    (λ e. (n, omega arith, e))
    (λ e. let r : (i : ℕ) × (i < n) × (t i ≡ true) = some_passes n t (omega (arith, ap bit e)) in (r.0, omega (arith, r.1), r.2))

-- one that passes is not among those before it
pub passes_after : (n i : ℕ) (t : ℕ → Bool) → i < n → t i ≡ true → how_many i t < how_many n t
passes_after n i t l e = omega (arith, sum_longer (suc i) n (λ j. bit (t j)) l, ap bit e)

-- how many of the first n numbers are below h
pub all_below : (n h : ℕ) → h ≤ n → how_many n (λ j. ltb j h) ≡ h
all_below zero h l = omega arith
all_below (suc n) h l =
    elim (ℕ_discrete h (suc n)) [
      | yes e ↦ rw e (sum_cong (suc n) (λ j. bit (ltb j (suc n))) (λ j. 1) (λ j k. rw (lt-ltb j (suc n) k)) ∙ sum_one (suc n))
      | no e ↦ rw (le-ltb n h (omega arith)) (omega (arith, all_below n h (omega arith)))
    ]

-- where one test does not pass, fewer than n do
pub one_missing : (n i : ℕ) (t : ℕ → Bool) → i < n → t i ≡ false → how_many n t < n
one_missing n i t l e =
    omega (
      arith,
      sum_mono n (λ j. bit (t j) + bit (eqb i j)) (λ j. 1)
          (λ j k.
          by_cases (eqb i j)
          (λ q. let f : t j ≡ false = rw (eqb-true i j q) at e in rw (f, q) (omega arith))
          (λ q. rw q (omega (arith, bit_le_one (t j))))),
      sum_add n (λ j. bit (t j)) (λ j. bit (eqb i j)),
      sum_one n,
      equal_one n i l,
    )

-- a test counted at the numbers that equal x: none of them below x, one of them above it
pub none_at : (n x : ℕ) (t : ℕ → Bool) → n ≤ x → how_many n (λ j. eqb j x && t j) ≡ 0
none_at zero x t h = refl
none_at (suc n) x t h = rw (ne_eqb n x (λ e. omega arith)) (omega (arith, none_at n x t (omega arith)))

pub one_at : (n x : ℕ) (t : ℕ → Bool) → x < n → how_many n (λ j. eqb j x && t j) ≡ bit (t x)
one_at zero x t h = omega arith
one_at (suc n) x t h =
    elim (dec_lt x n) [
      | yes l ↦ rw (ne_eqb n x (λ e. omega arith)) (omega (arith, one_at n x t l))
      | no l ↦ (let e : n ≡ x = omega arith in rw (e, eq-eqb x x refl) (omega (arith, none_at x x t (omega arith))))
    ]

-- a number up to t is 0 or one of 1 to t
pub zero_or_one_of : (x t : ℕ) → x ≤ t → how_many t (λ c. eqb x (suc c)) + bit (eqb x 0) ≡ 1
zero_or_one_of zero t h =
    omega (arith, sum_cong t (λ c. bit (eqb 0 (suc c))) (λ c. 0) (λ c l. ap bit (eqb-zero-suc c)), sum_zero t)
zero_or_one_of (suc x) t h =
    omega (
      arith,
      sum_cong t (λ c. bit (eqb (suc x) (suc c))) (λ c. bit (eqb x c)) (λ c l. ap bit (eqb-suc-suc x c)),
      equal_one t x h,
      ap bit (eqb-suc-zero x),
    )

-- for the numbers below n, and for n
pub below_suc : (n : ℕ) (P : ℕ → Type 0) → ((i : ℕ) → i < n → P i) → P n → (i : ℕ) → i < suc n → P i
below_suc n P f g i l = elim (dec_lt i n) [ yes k ↦ f i k | no k ↦ (let e : i ≡ n = omega arith in rw e g) ]
