-- Digits in upper case, eight at once: a small letter is the one kind of digit that reaches 128 when 31 is added to it.
-- Assumes nothing.
use Prim.Native.Nat.{ℕ, zero, suc, ◌+◌, ◌-◌, ◌*◌, ◌/◌, ◌≤◌, ◌<◌}
use mathlib.Core.Path.{◌≡◌, refl, sym, ap, ◌∙◌}
use mathlib.Core.Bool.{true}
use mathlib.Core.List.{List, [], ◌∷◌}
use native.Mathlib.Omega.{arith}
use native.Mathlib.Decide.{dec_lt}
use lib.Bits.{bit_and, and_block, and_zero_r}
use lib.ListN.{get_or}
use Rattle.text.specs.Hex.{digit_of}
use Rattle.text.specs.Text.{digit, digits, number}
use Rattle.text.specs.UpperCase.{upper, upper_case}
use Rattle.text.proofs.Bytes.{Kind, is_decimal, is_letter, is_small, is_none, kind}
use Rattle.text.proofs.Digits.{digit_at, last_digit, fewer_digits}
use Rattle.text.proofs.Hex.{digit_back, small_digit, large_digit}
use Rattle.text.proofs.UpperCase.{byte_upper}
use Rattle.merged_lines.specs.Packed.{packed, small_letters}
use Rattle.merged_lines.proofs.Packing.{pack, packed_is, pack_cong, pack_le, pack_add, pack_four, pack_and}

-- the top bit of a byte
top_of : (q r : ℕ) → r < 128 → bit_and (q * 128 + r) 128 ≡ bit_and q 1 * 128
top_of q r h = and_block 7 q 1 r 0 h (omega arith) ∙ omega (arith, and_zero_r r)

top_off : (x : ℕ) → x < 128 → bit_and x 128 ≡ 0
top_off x h = let e : 0 * 128 + x ≡ x = omega arith in rw e at (top_of 0 x h)

top_on : (x : ℕ) → 128 ≤ x → x < 256 → bit_and x 128 ≡ 128
top_on x l h =
    let e : 1 * 128 + (x - 128) ≡ x = omega arith in
    rw e at (top_of 1 (x - 128) (omega arith))

-- what a byte has above its capital, and how far it reaches: so it is for a digit, and for 0
abbrev pub Above : ℕ → Type 0
Above b = (bit_and (b + 31) 128 ≡ 4 * (b - upper b)) × (upper b ≤ b) × (b ≤ 102)

by_kind : (b : ℕ) → Kind b → digit b < 16 → Above b
by_kind b (is_decimal l h d u) p = (rw u (omega (arith, top_off (b + 31) (omega arith))), omega (arith, u), omega arith)
by_kind b (is_letter l h d u) p = (rw u (omega (arith, top_off (b + 31) (omega arith))), omega (arith, u), omega arith)
by_kind b (is_small l h d u) p = (rw u (omega (arith, top_on (b + 31) (omega arith) (omega arith))), omega (arith, u), omega arith)
by_kind b (is_none d u) p = absurd (omega (arith, d, p))

pub digit_above : (b : ℕ) → digit b < 16 → Above b
digit_above b = by_kind b (kind b)

none_above : Above 0
unfolding upper
none_above = (refl, omega arith, omega arith)

-- n digits, given by a function
module _ (byte : ℕ → ℕ) (n : ℕ) (its : (i : ℕ) → i < n → Above (byte i)) where
  -- what each has above its capital
  abbrev above : ℕ → ℕ
  above i = byte i - upper (byte i)

  abbrev capital : ℕ → ℕ
  capital i = upper (byte i)

  pub pack_small : pack byte n ≤ pack (λ i. 102) n
  pack_small = pack_le byte (λ i. 102) n (λ i l. (its i l).2)

  apart : pack capital n + pack above n ≡ pack byte n
  apart = pack_add capital above n ∙ pack_cong (λ i. capital i + above i) byte n (λ i l. omega (arith, (its i l).1))

  masked : bit_and (pack byte n + pack (λ i. 31) n) (pack (λ i. 128) n) ≡ 4 * pack above n
  masked =
      rw (pack_add byte (λ i. 31) n, pack_four above n)
      (pack_and (λ i. byte i + 31) (λ i. 128) n (λ i l. omega (arith, (its i l).2)) (λ i l. omega arith)
      ∙ pack_cong (λ i. bit_and (byte i + 31) 128) (λ i. 4 * above i) n (λ i l. (its i l).0))

  -- all of them in upper case
  pub pack_upper : pack byte n - bit_and (pack byte n + pack (λ i. 31) n) (pack (λ i. 128) n) / 4 ≡ pack capital n
  pack_upper = omega (arith, masked, apart)

  pub pack_less : bit_and (pack byte n + pack (λ i. 31) n) (pack (λ i. 128) n) / 4 ≤ pack byte n
  pack_less = omega (arith, masked, apart)

  pub capitals_small : pack capital n ≤ pack (λ i. 102) n
  capitals_small = omega (arith, apart, pack_small)

  pub capital_byte : (i : ℕ) → i < n → capital i < 256
  capital_byte i l = omega (arith, (its i l).1, (its i l).2)

-- eight digits of a text, in the numbers of the code
module _ (s : List ℕ) (at : ℕ) (d : digits s at 8 ≡ true) where
  abbrev byte_at : ℕ → ℕ
  byte_at i = get_or s (at + i) 0

  uppers : packed (upper_case s) at 8 ≡ pack (λ i. upper (byte_at i)) 8
  uppers =
      packed_is (upper_case s) at 8
      ∙ pack_cong (λ i. get_or (upper_case s) (at + i) 0) (λ i. upper (byte_at i)) 8 (λ i l. byte_upper s (at + i))

  each : (i : ℕ) → i < 8 → Above (byte_at i)
  each i l = digit_above (byte_at i) (digit_at s at 8 i d l)

  pub upper_small : packed (upper_case s) at 8 ≤ 7378697629483820646
  upper_small = omega (arith, uppers, capitals_small byte_at 8 each)

  pub upper_byte : (i : ℕ) → i < 8 → get_or (upper_case s) (at + i) 0 < 256
  upper_byte i l = omega (arith, byte_upper s (at + i), capital_byte byte_at 8 each i l)

  module _ (x : ℕ) (e : x ≡ packed s at 8) where
    as_pack : x ≡ pack byte_at 8
    as_pack = e ∙ packed_is s at 8

    pub eight_small : x ≤ 7378697629483820646
    eight_small = omega (arith, as_pack, pack_small byte_at 8 each)

    pub eight_less : small_letters x / 4 ≤ x
    eight_less = rw as_pack (pack_less byte_at 8 each)

    pub eight_upper : x - small_letters x / 4 ≡ packed (upper_case s) at 8
    eight_upper = rw as_pack (pack_upper byte_at 8 each) ∙ sym uppers

-- two digits, the second one the higher byte, after six bytes that are 0
module _ (a b x : ℕ) (d : digit a < 16) (e : digit b < 16) (f : x ≡ b * 256 + a) where
  abbrev of_two : ℕ → ℕ
  of_two i = get_or (0 ∷ 0 ∷ 0 ∷ 0 ∷ 0 ∷ 0 ∷ b ∷ a ∷ []) i 0

  both : (i : ℕ) → i < 8 → Above (of_two i)
  both zero l = none_above
  both (suc zero) l = none_above
  both (suc (suc zero)) l = none_above
  both (suc (suc (suc zero))) l = none_above
  both (suc (suc (suc (suc zero)))) l = none_above
  both (suc (suc (suc (suc (suc zero))))) l = none_above
  both (suc (suc (suc (suc (suc (suc zero)))))) l = digit_above b e
  both (suc (suc (suc (suc (suc (suc (suc zero))))))) l = digit_above a d
  both (suc (suc (suc (suc (suc (suc (suc (suc i)))))))) l = absurd (omega arith)

  as_two : x ≡ pack of_two 8
  as_two = omega (arith, f)

  pub two_small : x ≤ 7378697629483820646
  two_small = omega (arith, as_two, pack_small of_two 8 both)

  pub two_less : small_letters x / 4 ≤ x
  two_less = rw as_two (pack_less of_two 8 both)

  pub two_upper : x - small_letters x / 4 ≡ upper b * 256 + upper a
  unfolding upper
  two_upper =
      let capitals : x - small_letters x / 4 ≡ pack (λ i. upper (of_two i)) 8 = rw as_two (pack_upper of_two 8 both) in
      omega (arith, capitals)

-- Digits in upper case have the order of their values.
digits_rise : (v w : ℕ) → v < w → w < 16 → digit_of v < digit_of w
digits_rise v w l h =
    elim (dec_lt w 10) [
      | yes k ↦ omega (arith, small_digit v (omega arith), small_digit w k)
      | no k ↦
          elim (dec_lt v 10) [
            | yes m ↦ omega (arith, small_digit v m, large_digit w (omega arith))
            | no m ↦ omega (arith, large_digit v (omega arith), large_digit w (omega arith))
          ]
    ]

digit_byte : (v : ℕ) → v < 16 → digit_of v < 256
digit_byte v h = elim (dec_lt v 10) [ yes l ↦ omega (arith, small_digit v l) | no l ↦ omega (arith, large_digit v (omega arith)) ]

module _ (s t : List ℕ) (p q : ℕ) where
  -- one digit more
  key_next : (l : List ℕ) (at n : ℕ) → digits l at (suc n) ≡ true
      → packed (upper_case l) at (suc n) ≡ packed (upper_case l) at n * 256 + digit_of (digit (get_or l (at + n) 0))
  unfolding packed
  key_next l at n d = omega (arith, byte_upper l (at + n), digit_back (get_or l (at + n) 0) (last_digit l at n d))

  pub keys_order : (n : ℕ) → digits s p n ≡ true → digits t q n ≡ true
      → (number s p n < number t q n → packed (upper_case s) p n < packed (upper_case t) q n)
      × (number s p n ≡ number t q n → packed (upper_case s) p n ≡ packed (upper_case t) q n)
  unfolding number packed
  keys_order zero d e = (λ h. absurd (omega arith), λ h. refl)
  keys_order (suc n) d e =
      let so_far = keys_order n (fewer_digits s p n d) (fewer_digits t q n e) in
      let v = digit (get_or s (p + n) 0) in
      let w = digit (get_or t (q + n) 0) in
      let small = last_digit s p n d in
      let small' = last_digit t q n e in
      let x = key_next s p n d in
      let y = key_next t q n e in
      let bound = digit_byte v small in (
        λ h.
            elim (dec_lt (number s p n) (number t q n)) [
              | yes l ↦ omega (arith, x, y, so_far.0 l, bound)
              | no l ↦ omega (arith, x, y, so_far.1 (omega arith), digits_rise v w (omega arith) small')
            ],
        λ h.
            let same : v ≡ w = omega arith in
            omega (arith, x, y, so_far.1 (omega arith), ap digit_of same),
      )
