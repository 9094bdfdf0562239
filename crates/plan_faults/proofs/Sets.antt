-- A set of cards as a number: a card put into it is a member, and the others are as before.
-- Assumes nothing.
use Prim.Native.Nat.{ℕ, zero, suc, ◌+◌, ◌*◌, ◌/◌, ◌%◌, ◌^◌, ◌<◌}
use mathlib.Core.Path.{◌≡◌, sym, ap, ◌∙◌}
use mathlib.Core.Logic.{◌≢◌}
use native.Mathlib.Omega.{arith}
use native.Mathlib.Nat.{div-div-eq-div-mul, mul_comm, one-mul, pow-suc, zero-div, div-one}
use lib.Pow.{shl_exact}
use Rattle.plan_faults.specs.Searches.{member_of}

doubled : (k : ℕ) → 2 ^ suc k ≡ 2 ^ k * 2
doubled k = pow-suc 2 k

-- the next digit is that of half the number
half : (set k : ℕ) → member_of set (suc k) ≡ member_of (set / 2) k
half set k = ap (λ x. x % 2) (ap (λ x. set / x) (doubled k ∙ mul_comm (2 ^ k) 2) ∙ sym (div-div-eq-div-mul set 2 (2 ^ k)))

first : (set : ℕ) → member_of set 0 ≡ set % 2
first set = ap (λ x. x % 2) (div-one set)

half_sum : (set k : ℕ) → (set + 2 ^ suc k) / 2 ≡ set / 2 + 2 ^ k
half_sum set k = omega (arith, doubled k)

pub none_in_empty : (k : ℕ) → member_of 0 k ≡ 0
none_in_empty k = ap (λ x. x % 2) (zero-div (2 ^ k))

pub put_in : (set k : ℕ) → member_of set k ≡ 0 → member_of (set + 2 ^ k) k ≡ 1
put_in set zero h = omega (arith, h, first set, first (set + 1))
put_in set (suc k) h = half (set + 2 ^ suc k) k ∙ ap (λ x. member_of x k) (half_sum set k) ∙ put_in (set / 2) k (sym (half set k) ∙ h)

pub others_stay : (set k j : ℕ) → member_of set k ≡ 0 → j ≢ k → member_of (set + 2 ^ k) j ≡ member_of set j
others_stay set zero zero h n = absurd (n (omega arith))
others_stay set zero (suc j) h n =
    let even : (set + 1) / 2 ≡ set / 2 = omega (arith, h, first set) in
    half (set + 1) j ∙ ap (λ x. member_of x j) even ∙ sym (half set j)
others_stay set (suc k) zero h n = omega (arith, first set, first (set + 2 ^ suc k), doubled k)
others_stay set (suc k) (suc j) h n =
    half (set + 2 ^ suc k) j
    ∙ ap (λ x. member_of x j) (half_sum set k)
    ∙ others_stay (set / 2) k j (sym (half set k) ∙ h) (λ e. n (ap suc e))
    ∙ sym (half set j)

-- a set of the cards below n has n digits
pub set_fits : (n set k : ℕ) → set < 2 ^ n → k < n → member_of set k ≡ 0 → set + 2 ^ k < 2 ^ n
set_fits zero set k b l h = absurd (omega arith)
set_fits (suc n) set zero b l h = omega (arith, h, first set, b, doubled n)
set_fits (suc n) set (suc k) b l h =
    omega (arith, doubled n, doubled k, b, set_fits n (set / 2) k (omega (arith, b, doubled n)) (omega arith) (sym (half set k) ∙ h))

-- 1 shifted to digit k of a number of w digits
pub one_shifted : (w k : ℕ) → k < w → 1 * 2 ^ k % 2 ^ w ≡ 2 ^ k
one_shifted w k l = shl_exact 1 k w (omega arith) (omega arith) ∙ one-mul (2 ^ k)
