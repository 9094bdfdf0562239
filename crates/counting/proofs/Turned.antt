-- A list taken from its back or from its front.
-- Assumes nothing.
use Prim.Native.Nat.{ℕ, ◌<◌}
use mathlib.Core.Path.{◌≡◌, refl}
use mathlib.Core.Bool.{Bool, true, false}
use mathlib.Core.List.{List, reverse-reverse}
use native.Mathlib.Omega.{arith}
use lib.ListN.{length, get_or, length-reverse}
use Rattle.counting.proofs.Lists.{reverse_get_or}
use Rattle.counting.specs.Lists.{turned, taken_at}

pub taken_lt : (back : Bool) (n k : ℕ) → k < n → taken_at back n k < n
taken_lt true n k h = omega arith
taken_lt false n k h = h

pub taken_apart : (back : Bool) (n i k : ℕ) → i < k → k < n → taken_at back n i ≡ taken_at back n k → ⊥
taken_apart true n i k h g e = omega arith
taken_apart false n i k h g e = omega arith

pub length_turned : (back : Bool) (l : List ℕ) → length (turned back l) ≡ length l
length_turned true l = length-reverse l
length_turned false l = refl

pub turned_turned : (back : Bool) (l : List ℕ) → turned back (turned back l) ≡ l
turned_turned true l = reverse-reverse l
turned_turned false l = refl

pub get_or_turned : (back : Bool) (l : List ℕ) (i : ℕ) → i < length l → get_or (turned back l) i 0 ≡ get_or l (taken_at back (length l) i) 0
get_or_turned true l i h = reverse_get_or l i h
get_or_turned false l i h = refl
