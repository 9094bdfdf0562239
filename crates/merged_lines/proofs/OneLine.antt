-- A line written in upper case in three pieces, the digits of its second, its card and its end byte, is the line of the text in upper case.
-- Assumes nothing.
use Prim.Native.Nat.{ℕ, ◌+◌, ◌*◌, ◌/◌, ◌%◌, ◌<◌}
use mathlib.Core.Path.{◌≡◌, refl, sym, ap, ◌∙◌}
use mathlib.Core.Bool.{true}
use mathlib.Core.List.{List, [], ◌∷◌, ◌++◌}
use native.Mathlib.Omega.{arith}
use native.Mathlib.Nat.{add-zero}
use native.Mathlib.Numerals.{add-one}
use lib.ListN.{length, get_or, take, drop, set, length-append, length-drop}
use lib.Seq.{sets, take-suc, get_or-drop}
use Rattle.counting.proofs.Parts.{parts_meet, sets_append, sets_before, sets_length}
use Rattle.text.specs.Text.{end_byte, digit, digits, Line}
use Rattle.text.specs.UpperCase.{upper, upper_case}
use Rattle.text.proofs.Digits.{digits_of_line}
use Rattle.text.proofs.Lines.{line_true, line_later}
use Rattle.text.proofs.Puts.{write_long}
use Rattle.text.proofs.UpperCase.{byte_upper, end_stays, length_upper}
use Rattle.merged_lines.specs.Packed.{packed, bytes}
use Rattle.merged_lines.proofs.Packing.{bytes_packed}
use Rattle.merged_lines.proofs.Capitals.{digit_above, capital_byte, upper_byte}

-- the digits of a line's second
pub second_digits_at : (s : List ℕ) (from : ℕ) → Line s from 10 → digits s (from + 2) 8 ≡ true
second_digits_at s from l = digits_of_line s (from + 2) 8 (line_true s (from + 2) 8 (line_later s from 8 2 l))

-- A line that stands at a place of s, put in three pieces: the digits of its second, its card, its end byte.
module _ (s : List ℕ) (from : ℕ) (its_line : Line s from 10) (l x : List ℕ) (at key : ℕ)
    (e : key ≡ packed (upper_case s) (from + 2) 8) (put : x ≡ sets l (at + 2) (bytes 8 key)) where
  abbrev u : List ℕ
  u = upper_case s

  pub put_length : length x ≡ length l
  put_length = sets_length l x (at + 2) (bytes 8 key) put

  -- the pieces, as they stand in the text in upper case
  piece : (k : ℕ) → k < 11 → take 1 (drop (from + k) u) ≡ get_or u (from + k) 0 ∷ []
  piece k h =
      let inside : 0 < length (drop (from + k) u) = rw (length-drop, length_upper s) (omega (arith, its_line.inside)) in
      take-suc (drop (from + k) u) 0 0 inside ∙ ap (λ (b : ℕ). b ∷ []) (get_or-drop (from + k) u 0 0 ∙ rw (add-zero (from + k)))

  second_piece : bytes 8 key ≡ take 8 (drop (from + 2) u)
  second_piece =
      rw e
      (bytes_packed u (from + 2) 8 (upper_byte s (from + 2) (second_digits_at s from its_line))
      (rw (length_upper s) (omega (arith, its_line.inside))))

  -- the digits of the card
  pub first_digit : digit (get_or s from 0) < 16
  first_digit = rw (add-zero from) at (its_line.each_digit 0 (omega arith))

  pub second_digit : digit (get_or s (from + 1) 0) < 16
  second_digit = its_line.each_digit 1 (omega arith)

  first_byte : upper (get_or s from 0) < 256
  first_byte = capital_byte (λ i. get_or s from 0) 1 (λ i l. digit_above (get_or s from 0) first_digit) 0 (omega arith)

  pub card_small : (card : ℕ) → card ≡ upper (get_or s (from + 1) 0) * 256 + upper (get_or s from 0) → card < 65536
  card_small card f = omega (arith, f, first_byte, capital_byte (λ i. get_or s (from + 1) 0) 1 (λ i l. digit_above (get_or s (from + 1) 0) second_digit) 0 (omega arith))

  eight_long : length (bytes 8 key) ≡ 8
  unfolding bytes
  eight_long = write_long 256 (omega arith) (λ d. d) bytes (λ v. refl) (λ n v. refl) 8 key

  card_piece : get_or u from 0 ∷ get_or u (from + 1) 0 ∷ [] ≡ take 2 (drop from u)
  card_piece =
      let first : take 1 (drop from u) ≡ get_or u from 0 ∷ [] = rw (add-zero from) at (piece 0 (omega arith)) in
      sym (sym (parts_meet u from 1 1) ∙ rw (first, piece 1 (omega arith)))

  pub whole_line :
      (card : ℕ) → card ≡ upper (get_or s (from + 1) 0) * 256 + upper (get_or s from 0)
      → set (set (set x at (card % 256)) (at + 1) (card / 256)) (at + 10) end_byte ≡ sets l at (take 11 (drop from u))
  whole_line card f =
      let small = first_byte in
      let a = upper (get_or s from 0) in
      let b = upper (get_or s (from + 1) 0) in
      let low : card % 256 ≡ a = omega (arith, f, small) in
      let high : card / 256 ≡ b = omega (arith, f, small) in
      let cards : a ∷ b ∷ [] ≡ take 2 (drop from u) = rw (← byte_upper s from, ← byte_upper s (from + 1)) card_piece in
      let end : end_byte ∷ [] ≡ take 1 (drop (from + 10) u) =
      ap (λ (c : ℕ). c ∷ []) (sym (end_stays s (from + 10) its_line.ends)) ∙ sym (piece 10 (omega arith)) in
      let ten : length ((a ∷ b ∷ []) ++ bytes 8 key) ≡ 10 = omega (arith, length-append (a ∷ b ∷ []) (bytes 8 key), eight_long) in
      let text : ((a ∷ b ∷ []) ++ bytes 8 key) ++ (end_byte ∷ []) ≡ take 11 (drop from u) =
      ap (λ (y : List ℕ). (y ++ bytes 8 key) ++ (end_byte ∷ [])) cards
      ∙ ap (λ (y : List ℕ). (take 2 (drop from u) ++ y) ++ (end_byte ∷ [])) second_piece
      ∙ ap (λ (y : List ℕ). y ++ (end_byte ∷ [])) (parts_meet u from 2 8)
      ∙ ap (λ (y : List ℕ). take 10 (drop from u) ++ y) end
      ∙ parts_meet u from 10 1 in
      rw (
        low,
        high,
        add-one at,
        put,
        sets_before l at (a ∷ b ∷ []) (bytes 8 key) (at + 2) refl,
        sets_append l at ((a ∷ b ∷ []) ++ bytes 8 key) (end_byte ∷ []) (at + 10) (rw ten),
      )
      (rw text)
