-- Laws of tests and of `bit`, the number 1 or 0 that a test counts as.
-- Assumes nothing.
use Prim.Native.Nat.{ℕ, zero, suc, ◌+◌, ◌≤◌, ◌<◌, zero-le}
use mathlib.Core.Path.{◌≡◌, refl, ap, ◌∙◌, sym}
use mathlib.Core.Bool.{Bool, true, false, not, ◌&&◌, ◌||◌, cond}
use native.Mathlib.Omega.{arith}
use native.Mathlib.Decide.{dec_le, ℕ_discrete, dec_lt}
use lib.Dec.{eqb, leb, ltb}
use borrow.Author.Tests.{eq-eqb, le-leb, lt-leb, lt-ltb, ne_eqb, le-ltb}
use Rattle.counting.specs.Count.{bit}

-- by the two cases of a test, each with what it says
pub by_cases {ℓ} : {P : Type ℓ} (b : Bool) → (b ≡ true → P) → (b ≡ false → P) → P
by_cases true f g = f refl
by_cases false f g = g refl

-- a value picked by a test, each case with what the test says
pub by_test : {A : Type 0} (P : A → Type 0) (b : Bool) (x y : A) → (b ≡ true → P x) → (b ≡ false → P y) → P (cond b x y)
by_test P true x y p q = p refl
by_test P false x y p q = q refl

pub and_left : (a b : Bool) → (a && b) ≡ true → a ≡ true
and_left true b e = refl
and_left false b e = e

pub and_right : (a b : Bool) → (a && b) ≡ true → b ≡ true
and_right true b e = e
and_right false b e = cc

pub or_cases : {P : Type 0} (a b : Bool) → (a || b) ≡ true → (a ≡ true → P) → (b ≡ true → P) → P
or_cases true b e f g = f refl
or_cases false b e f g = g e

pub or_right : (a b : Bool) → b ≡ true → (a || b) ≡ true
or_right true b e = refl
or_right false b e = e

pub or_neither : (a b : Bool) → (a || b) ≡ false → b ≡ false
or_neither true b e = cc
or_neither false b e = e

pub bit_le_one : (b : Bool) → bit b ≤ 1
bit_le_one true = omega arith
bit_le_one false = omega arith

pub bit_mono : (a b : Bool) → (a ≡ true → b ≡ true) → bit a ≤ bit b
bit_mono false b h = zero-le
bit_mono true b h = rw (h refl) (omega arith)

pub bit_and_le : (a b : Bool) → bit (a && b) ≤ bit a
bit_and_le true b = bit_le_one b
bit_and_le false b = zero-le

pub bit_and_mono : (a b b' : Bool) → (a ≡ true → b ≡ true → b' ≡ true) → bit (a && b) ≤ bit (a && b')
bit_and_mono true b b' h = bit_mono b b' (h refl)
bit_and_mono false b b' h = zero-le

pub bit_and_off : (a b : Bool) → b ≡ false → bit (a && b) ≡ 0
bit_and_off true b e = ap bit e
bit_and_off false b e = refl

pub bit_or_le : (a b : Bool) → bit b ≤ bit (a || b)
bit_or_le true b = bit_le_one b
bit_or_le false b = omega arith

-- a test passes or its opposite does
pub bit_split : (a b : Bool) → bit (a && not b) + bit (a && b) ≡ bit a
bit_split true true = refl
bit_split true false = refl
bit_split false b = refl

-- a cycle up to t + 1 is one up to t, or t + 1 itself
pub bit_up_to : (a : Bool) (x t : ℕ) → bit (a && leb x (suc t)) ≤ bit (a && leb x t) + bit (a && eqb x (suc t))
bit_up_to false x t = zero-le
bit_up_to true x t =
    elim (dec_le x t) [
      | yes l ↦ rw (le-leb x t l) (omega (arith, bit_le_one (leb x (suc t))))
      | no n ↦
          elim (dec_le x (suc t)) [
            | yes l ↦ (let e : x ≡ suc t = omega arith in rw (eq-eqb x (suc t) e) (omega (arith, bit_le_one (leb x (suc t)))))
            | no k ↦ (let g : suc t < x = omega arith in rw (lt-leb x (suc t) g) zero-le)
          ]
    ]

pub eqb_swap : (x y : ℕ) → eqb x y ≡ eqb y x
eqb_swap x y =
    elim (ℕ_discrete x y) [
      | yes e ↦ eq-eqb x y e ∙ sym (eq-eqb y x (sym e))
      | no e ↦ ne_eqb x y e ∙ sym (ne_eqb y x (λ q. e (sym q)))
    ]

-- a number is below c if the next one is, or is c
pub before_or_that : (x c : ℕ) → bit (ltb x c) ≡ bit (ltb (suc x) c) + bit (eqb (suc x) c)
before_or_that x c =
    elim (ℕ_discrete (suc x) c) [
      | yes e ↦ rw (eq-eqb (suc x) c e, lt-ltb x c (omega arith), le-ltb (suc x) c (omega arith))
      | no e ↦
          rw (ne_eqb (suc x) c e)
          (elim (dec_lt x c) [
            | yes l ↦ rw (lt-ltb x c l, lt-ltb (suc x) c (omega arith))
            | no l ↦ rw (le-ltb x c (omega arith), le-ltb (suc x) c (omega arith))
          ])
    ]

pub up_to_splits : (x c : ℕ) → bit (leb x c) ≡ bit (ltb x c) + bit (eqb x c)
up_to_splits x c =
    elim (ℕ_discrete x c) [
      | yes e ↦ rw (eq-eqb x c e, le-leb x c (omega arith), le-ltb x c (omega arith))
      | no e ↦
          rw (ne_eqb x c e)
          (elim (dec_lt x c) [
            | yes l ↦ rw (lt-ltb x c l, le-leb x c (omega arith))
            | no l ↦ rw (le-ltb x c (omega arith), lt-leb x c (omega arith))
          ])
    ]

pub before_next : (x c : ℕ) → bit (ltb x (suc c)) ≡ bit (leb x c)
before_next x c =
    elim (dec_le x c) [
      | yes l ↦ rw (le-leb x c l, lt-ltb x (suc c) (omega arith))
      | no l ↦ rw (lt-leb x c (omega arith), le-ltb x (suc c) (omega arith))
    ]

pub leb_none : (n : ℕ) → leb n 0 ≡ eqb n 0
leb_none zero = refl
leb_none (suc n) = lt-leb (suc n) 0 (omega arith) ∙ sym (ne_eqb (suc n) 0 (λ e. omega arith))

-- a cycle x is y or later, or it is up to t, where y is up to t + 1
pub later_or_done : (x y t : ℕ) → y ≤ suc t → 1 ≤ bit (leb y x) + bit (leb x t)
later_or_done x y t h =
    elim (dec_le y x) [
      | yes l ↦ rw (le-leb y x l) (omega arith)
      | no n ↦ (let g : x ≤ t = omega arith in rw (le-leb x t g) (omega arith))
    ]

pub or_first : (a b : Bool) → (a || b) ≡ false → a ≡ false
or_first true b e = e
or_first false b e = refl
