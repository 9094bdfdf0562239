-- Where lines stand: line i of a part begins at w * i, where w is the width of a line with its end byte.
-- Assumes nothing.
use Prim.Native.Nat.{ℕ, ◌+◌, ◌*◌, ◌/◌, ◌≤◌, ◌<◌}
use mathlib.Core.Path.{◌≡◌}
use native.Mathlib.Omega.{arith}
use native.Mathlib.Numerals.{add-one}
use native.Mathlib.Nat.{mul-suc, mul_comm, mul-le-mul_left, mul-div-le, lt-div-mul-add}

module _ (w : ℕ) where
  -- the next line begins where one ends
  pub place_next : (i : ℕ) → w * (i + 1) ≡ w * i + w
  place_next i = rw (add-one i) (mul-suc w i)

  -- one of n lines lies before the end of the last
  pub place_inside : (i n : ℕ) → i < n → w * i + w ≤ w * n
  place_inside i n l = omega (arith, place_next i, mul-le-mul_left {m = i + 1} {n = n} w (omega arith))

  -- the lines that a part of so many bytes has whole
  module _ (long : ℕ) where
    pub whole_inside : (lines : ℕ) → lines ≤ long / w → w * lines ≤ long
    whole_inside lines h = omega (arith, mul-le-mul_left {m = lines} {n = long / w} w h, mul-div-le long w)

    pub not_whole : (i : ℕ) → 0 < w → long / w ≤ i → w * i + w ≤ long → ⊥
    not_whole i p h l =
        omega (arith, l, mul-le-mul_left {m = long / w} {n = i} w h, lt-div-mul-add {a = long} {b = w} p, mul_comm w (long / w))
