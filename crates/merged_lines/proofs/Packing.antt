-- Laws of packed bytes: sums, masks and orders of packed bytes are those of the bytes, where no byte overflows.
-- Assumes nothing.
use Prim.Native.Nat.{ℕ, zero, suc, ◌+◌, ◌*◌, ◌/◌, ◌%◌, ◌≤◌, ◌<◌, zero-le}
use mathlib.Core.Path.{◌≡◌, refl, sym, ap, ◌∙◌}
use mathlib.Core.List.{List, [], ◌∷◌, append_assoc}
use native.Mathlib.Omega.{arith}
use native.Mathlib.Nat.{add-zero}
use lib.Bits.{bit_and, and_block}
use lib.ListN.{length, get_or, take, drop, length-drop}
use lib.Seq.{sets, sets-eq, take-suc, drop-drop, get_or-drop}
use borrow.Rule.Slice.PartMut.{put_mid}
use Rattle.std.specs.Int.{w64, from_be_bytes, to_be_bytes}
use Rattle.text.proofs.Puts.{write_step}
use Rattle.merged_lines.specs.Packed.{packed, bytes}

-- bytes given by a function, packed
abbrev pub pack : (ℕ → ℕ) → ℕ → ℕ
pack f zero = 0
pack f (suc n) = pack f n * 256 + f n

pub packed_is : (s : List ℕ) (at n : ℕ) → packed s at n ≡ pack (λ i. get_or s (at + i) 0) n
unfolding packed
packed_is s at zero = refl
packed_is s at (suc n) = omega (arith, packed_is s at n)

pub pack_cong : (f g : ℕ → ℕ) (n : ℕ) → ((i : ℕ) → i < n → f i ≡ g i) → pack f n ≡ pack g n
pack_cong f g zero h = refl
pack_cong f g (suc n) h = omega (arith, pack_cong f g n (λ i l. h i (omega arith)), h n (omega arith))

pub pack_le : (f g : ℕ → ℕ) (n : ℕ) → ((i : ℕ) → i < n → f i ≤ g i) → pack f n ≤ pack g n
pack_le f g zero h = zero-le
pack_le f g (suc n) h = omega (arith, pack_le f g n (λ i l. h i (omega arith)), h n (omega arith))

pub pack_add : (f g : ℕ → ℕ) (n : ℕ) → pack f n + pack g n ≡ pack (λ i. f i + g i) n
pack_add f g zero = refl
pack_add f g (suc n) = omega (arith, pack_add f g n)

pub pack_four : (f : ℕ → ℕ) (n : ℕ) → 4 * pack f n ≡ pack (λ i. 4 * f i) n
pack_four f zero = refl
pack_four f (suc n) = omega (arith, pack_four f n)

pub pack_and :
    (f g : ℕ → ℕ) (n : ℕ) → ((i : ℕ) → i < n → f i < 256) → ((i : ℕ) → i < n → g i < 256)
    → bit_and (pack f n) (pack g n) ≡ pack (λ i. bit_and (f i) (g i)) n
pack_and f g zero h k = refl
pack_and f g (suc n) h k =
    and_block 8 (pack f n) (pack g n) (f n) (g n) (h n (omega arith)) (k n (omega arith))
    ∙ omega (arith, pack_and f g n (λ i l. h i (omega arith)) (λ i l. k i (omega arith)))

-- the bytes of packed bytes are these bytes
pub bytes_packed :
    (s : List ℕ) (at n : ℕ) → ((i : ℕ) → i < n → get_or s (at + i) 0 < 256) → at + n ≤ length s → bytes n (packed s at n) ≡ take n (drop at s)
unfolding packed bytes
bytes_packed s at zero h l = refl
bytes_packed s at (suc n) h l =
    let b = get_or s (at + n) 0 in
    let inside : n < length (drop at s) = rw length-drop (omega arith) in
    write_step 256 (omega arith) (λ d. d) bytes (λ v. refl) (λ m v. refl) n (packed s at n) b (h n (omega arith))
    ∙ rw (bytes_packed s at n (λ i k. h i (omega arith)) (omega arith), take-suc (drop at s) n 0 inside, get_or-drop)

-- the library's words for the same: eight bytes read as a number, and a number's eight bytes
pub packed_eight :
    (s : List ℕ) (at : ℕ)
    → from_be_bytes w64
    (get_or s at 0 ∷ get_or s (at + 1) 0 ∷ get_or s (at + 2) 0 ∷ get_or s (at + 3) 0 ∷ get_or s (at + 4) 0 ∷ get_or s (at + 5) 0
    ∷ get_or s (at + 6) 0 ∷ get_or s (at + 7) 0 ∷ [])
    ≡ packed s at 8
unfolding packed
packed_eight s at =
    let first : get_or s (at + 0) 0 ≡ get_or s at 0 = ap (λ (k : ℕ). get_or s k 0) (add-zero at) in
    omega (arith, first)

pub eight_bytes : (v : ℕ) → to_be_bytes w64 v ≡ bytes 8 v
unfolding bytes
eight_bytes v =
    let b2 : v / 256 / 256 % 256 ≡ v / 65536 % 256 = omega arith in
    let b3 : v / 256 / 256 / 256 % 256 ≡ v / 16777216 % 256 = omega arith in
    let b4 : v / 256 / 256 / 256 / 256 % 256 ≡ v / 4294967296 % 256 = omega arith in
    let b5 : v / 256 / 256 / 256 / 256 / 256 % 256 ≡ v / 1099511627776 % 256 = omega arith in
    let b6 : v / 256 / 256 / 256 / 256 / 256 / 256 % 256 ≡ v / 281474976710656 % 256 = omega arith in
    let b7 : v / 256 / 256 / 256 / 256 / 256 / 256 / 256 % 256 ≡ v / 72057594037927936 % 256 = omega arith in
    rw (b2, b3, b4, b5, b6, b7)
