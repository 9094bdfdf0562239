-- A pattern's word: its lowest byte is the next card, turned by one byte it stands at the next place, and its bytes are the eight cards from there on.
-- Assumes nothing.
use Prim.Native.Nat.{ℕ, zero, suc, ◌+◌, ◌*◌, ◌/◌, ◌%◌, ◌^◌, ◌≤◌, ◌<◌}
use mathlib.Core.Path.{◌≡◌, refl, sym, ap, ◌∙◌}
use mathlib.Core.List.{List, [], ◌∷◌, append_assoc}
use native.Mathlib.Omega.{arith}
use native.Mathlib.Nat.{add-zero, zero-mul, add-mul, mul_assoc, pow-suc}
use lib.Bits.{bit_and, and_block, and_zero_r}
use lib.ListN.{length, take, drop}
use lib.Seq.{sets, sets-eq, drop-drop}
use borrow.Rule.Slice.PartMut.{put_mid}
use Rattle.std.specs.Int.{w64, from_le_bytes, to_le_bytes, rotate_right}
use Rattle.std.proofs.lemmas.Nat.{or_disjoint}
use Rattle.counting.specs.Count.{sum}
use Rattle.counting.proofs.Sums.{sum_cong, sum_front}
use Rattle.hub.specs.Patterns.{hub_size, pattern_row, pattern_card}
use Rattle.hub.specs.Words.{word_at, turn, low_bytes}

-- the library's words for a pattern's word, for a word turned by one byte, and for its eight bytes
pub word_is : (p : ℕ) → from_le_bytes w64 (pattern_row p) ≡ word_at (pattern_card p) 0
unfolding word_at
word_is p = omega arith

pub turn_is : (word : ℕ) → word < 18446744073709551616 → rotate_right w64 word 8 ≡ turn word
turn_is word h =
    let high : word * 72057594037927936 % 18446744073709551616 ≡ word % 256 * 72057594037927936 = omega arith in
    let low : word / 256 < 72057594037927936 = omega arith in
    let x : 0 * 72057594037927936 + word / 256 ≡ word / 256 = omega arith in
    let y : word % 256 * 72057594037927936 + 0 ≡ word % 256 * 72057594037927936 = omega arith in
    let apart : bit_and (word / 256) (word % 256 * 72057594037927936) ≡ 0 =
    rw (x, y) at (and_block 56 0 (word % 256) (word / 256) 0 low (omega arith)) ∙ omega (arith, and_zero_r (word / 256)) in
    rw high (or_disjoint (word / 256) (word % 256 * 72057594037927936) apart)

pub eight_bytes : (word : ℕ) → to_le_bytes w64 word ≡ low_bytes 8 word
eight_bytes word =
    let b2 : word / 256 / 256 % 256 ≡ word / 65536 % 256 = omega arith in
    let b3 : word / 256 / 256 / 256 % 256 ≡ word / 16777216 % 256 = omega arith in
    let b4 : word / 256 / 256 / 256 / 256 % 256 ≡ word / 4294967296 % 256 = omega arith in
    let b5 : word / 256 / 256 / 256 / 256 / 256 % 256 ≡ word / 1099511627776 % 256 = omega arith in
    let b6 : word / 256 / 256 / 256 / 256 / 256 / 256 % 256 ≡ word / 281474976710656 % 256 = omega arith in
    let b7 : word / 256 / 256 / 256 / 256 / 256 / 256 / 256 % 256 ≡ word / 72057594037927936 % 256 = omega arith in
    rw (b2, b3, b4, b5, b6, b7)

-- the lowest byte of a number, and the others
low_byte : (b rest : ℕ) → b < 256 → (b + rest * 256) % 256 ≡ b
low_byte b rest h = omega arith

high_bytes : (b rest : ℕ) → b < 256 → (b + rest * 256) / 256 ≡ rest
high_bytes b rest h = omega arith

module _ (card : ℕ → ℕ) (low : (k : ℕ) → k < hub_size → card k < 256) where
  -- the card at the j-th place after place k
  abbrev after : ℕ → ℕ → ℕ
  after k j = card ((k + j) % hub_size)

  -- the seven cards above the lowest
  abbrev above : ℕ → ℕ
  above k = sum 7 (λ j. after k (j + 1) * 256 ^ j)

  -- the lowest byte, and the others
  parts : (k : ℕ) → word_at card k ≡ after k 0 + above k * 256
  unfolding word_at
  parts k = omega arith

  -- one place on, the lowest byte is the highest
  moved : (k : ℕ) → word_at card (suc k) ≡ above k + after k 0 * 72057594037927936
  unfolding word_at
  moved k = omega (arith, next k 0, next k 1, next k 2, next k 3, next k 4, next k 5, next k 6, round k)
    where
      next : (k j : ℕ) → after (suc k) j ≡ after k (j + 1)
      next k j = ap (λ (x : ℕ). card (x % hub_size)) (omega arith)

      round : (k : ℕ) → after (suc k) 7 ≡ after k 0
      round k = ap card (omega arith)

  small : (k : ℕ) → after k 0 < 256
  small k = low ((k + 0) % hub_size) (omega arith)

  pub lowest : (k : ℕ) → word_at card k % 256 ≡ card (k % hub_size)
  lowest k = rw (parts k, low_byte (after k 0) (above k) (small k)) (ap (λ (x : ℕ). card (x % hub_size)) (add-zero k))

  pub turned : (k : ℕ) → word_at card k / 256 + word_at card k % 256 * 72057594037927936 ≡ word_at card (suc k)
  turned k = rw (parts k, moved k, low_byte (after k 0) (above k) (small k), high_bytes (after k 0) (above k) (small k))

  -- after eight turns a word is as it was
  pub word_round : (k : ℕ) → word_at card (k + hub_size) ≡ word_at card k
  unfolding word_at
  word_round k =
      sum_cong hub_size (λ j. after (k + hub_size) j * 256 ^ j) (λ j. after k j * 256 ^ j) (λ j l. ap (λ (x : ℕ). card x * 256 ^ j) (omega arith))

-- the values of a function at m places from i on
abbrev pub values : (ℕ → ℕ) → ℕ → ℕ → List ℕ
values f i zero = []
values f i (suc m) = f i ∷ values f (suc i) m

pub values_cong : (m : ℕ) (f g : ℕ → ℕ) (i k : ℕ) → ((j : ℕ) → j < m → f (i + j) ≡ g (k + j)) → values f i m ≡ values g k m
values_cong zero f g i k h = refl
values_cong (suc m) f g i k h =
    let first : f i ≡ g k = ap f (sym (add-zero i)) ∙ h 0 (omega arith) ∙ ap g (add-zero k) in
    let others : values f (suc i) m ≡ values g (suc k) m =
    values_cong m f g (suc i) (suc k) (λ j l. ap f (omega arith) ∙ h (suc j) (omega arith) ∙ ap g (omega arith)) in
    rw (first, others)

-- the bytes of a number that is made of bytes
sum_scale : (m c : ℕ) (f : ℕ → ℕ) → sum m (λ j. f j * c) ≡ sum m f * c
sum_scale zero c f = sym (zero-mul c)
sum_scale (suc m) c f = rw (sum_scale m c f) (sym (add-mul (sum m f) (f m) c))

pub bytes_are :
    (m : ℕ) (b : ℕ → ℕ) (i : ℕ) → ((j : ℕ) → b j < 256) → low_bytes m (sum m (λ j. b (i + j) * 256 ^ j)) ≡ values b i m
bytes_are zero b i h = refl
bytes_are (suc m) b i h =
    let rest : ℕ = sum m (λ j. b (suc i + j) * 256 ^ j) in
    let tail : sum m (λ j. b (i + suc j) * 256 ^ suc j) ≡ rest * 256 =
    sum_cong m (λ j. b (i + suc j) * 256 ^ suc j) (λ j. (b (suc i + j) * 256 ^ j) * 256)
    (λ j l.
    ap (λ (x : ℕ). b x * 256 ^ suc j) (omega arith)
    ∙ ap (λ (x : ℕ). b (suc i + j) * x) (pow-suc 256 j)
    ∙ sym (mul_assoc (b (suc i + j)) (256 ^ j) 256))
    ∙ sum_scale m 256 (λ j. b (suc i + j) * 256 ^ j) in
    let whole : sum (suc m) (λ j. b (i + j) * 256 ^ j) ≡ b i + rest * 256 =
    sum_front m (λ j. b (i + j) * 256 ^ j) ∙ omega (arith, tail, ap b (add-zero i)) in
    rw (whole, low_byte (b i) rest (h i), high_bytes (b i) rest (h i), bytes_are m b (suc i) h)

pub card_bytes :
    (card : ℕ → ℕ) → ((k : ℕ) → k < hub_size → card k < 256)
    → (k : ℕ) → low_bytes 8 (word_at card k) ≡ values (λ j. card (j % hub_size)) k hub_size
unfolding word_at
card_bytes card low k = bytes_are hub_size (λ j. card (j % hub_size)) k (λ j. low (j % hub_size) (omega arith))
