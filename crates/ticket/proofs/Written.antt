-- An accepted ticket, in upper case, is the text that its values are written as.
-- Assumes nothing.
use Prim.Native.Nat.{ℕ, zero, suc, ◌+◌, ◌*◌, ◌≤◌, ◌<◌}
use mathlib.Core.Path.{◌≡◌, sym, ap, ◌∙◌}
use mathlib.Core.List.{List, [], ◌∷◌, ◌++◌}
use native.Mathlib.Omega.{arith}
use native.Mathlib.Nat.{mul-suc}
use native.Mathlib.Numerals.{add-one}
use lib.ListN.{length, take, drop, length-drop, take-append-drop}
use lib.Seq.{take-add, take-suc, take_all, get_or-drop, drop-drop}
use borrow.Author.Tests.{lt-ltb}
use Rattle.counting.specs.Frames.{card_of}
use Rattle.counting.proofs.Parts.{parts_meet, map_take, map_drop}
use Rattle.text.specs.Hex.{hex, end_of_line}
use Rattle.text.specs.Text.{number, Line}
use Rattle.text.specs.UpperCase.{upper, upper_case}
use Rattle.text.proofs.Digits.{all_digits, digits_of_line, field_digits}
use Rattle.text.proofs.Lines.{line_true, line_later}
use Rattle.text.proofs.Hex.{number_back}
use Rattle.text.proofs.UpperCase.{end_stays, length_upper}
use Rattle.header.specs.Editions.{card_digits, second_digits, line_digits, line_bytes}
use Rattle.header.specs.Heading.{header_of, edition_of, header_bytes, header_digits}
use Rattle.ticket.specs.Grounds.{part}
use Rattle.ticket.specs.Print.{header_text, line_text, line_texts, ticket_text}
use Rattle.frame_lines.specs.Lines.{card_at, second_at}
use Rattle.ticket.specs.Ticket.{accepted, parse, line_in, line_of}
use Rattle.ticket.specs.Seconds.{seconds_of, second_of}
use Rattle.ticket.proofs.Accepted.{row, its_edition, its_line, its_card, text_length}
use Rattle.ticket.proofs.Seconds.{second_at_is}
use Rattle.header.specs.declared.Header.{Header}

-- a line of the text s, in upper case: its digits, and with its end byte
module _ (edition : ℕ) (s : List ℕ) (i : ℕ) (l : Line s (line_bytes edition * i) (line_digits edition)) where
  abbrev at : ℕ
  at = line_bytes edition * i

  card_back : hex card_digits (card_at edition s i) ≡ take card_digits (drop at (upper_case s))
  unfolding card_at
  card_back =
      number_back s at card_digits (all_digits s at card_digits (λ k h. l.each_digit k (omega arith))) (omega (arith, l.inside))

  pub digits_back : line_text edition (card_at edition s i) (second_at edition s i) ≡ take (line_digits edition) (drop at (upper_case s))
  unfolding second_at
  digits_back =
      let later = line_true s (at + card_digits) (second_digits edition) (line_later s at (second_digits edition) card_digits l) in
      let d = digits_of_line s (at + card_digits) (second_digits edition) later in
      rw (card_back, number_back s (at + card_digits) (second_digits edition) d (omega (arith, l.inside)))
      (parts_meet (upper_case s) at card_digits (second_digits edition))

  pub line_back : line_text edition (card_at edition s i) (second_at edition s i) ++ end_of_line ≡ take (line_bytes edition) (drop at (upper_case s))
  line_back =
      let u = upper_case s in
      let k : line_digits edition < length (drop at u) = rw (length-drop, length_upper s) (omega (arith, l.inside)) in
      rw digits_back
      (sym
      (ap (λ (n : ℕ). take n (drop at u)) (add-one (line_digits edition))
      ∙ take-suc (drop at u) (line_digits edition) 0 k
      ∙ ap (λ (b : ℕ). take (line_digits edition) (drop at u) ++ (b ∷ []))
      (get_or-drop at u (line_digits edition) 0 ∙ end_stays s (at + line_digits edition) l.ends)))

lines_back :
    (edition : ℕ) (s cards seconds : List ℕ) (n : ℕ) → ((i : ℕ) → i < n → Line s (line_bytes edition * i) (line_digits edition))
    → ((i : ℕ) → i < n → card_of cards i ≡ card_at edition s i) → ((i : ℕ) → i < n → second_of seconds i ≡ second_at edition s i)
    → line_texts edition cards seconds n ≡ take (line_bytes edition * n) (upper_case s)
unfolding line_texts
lines_back edition s cards seconds zero h c x = ap (λ (k : ℕ). take k (upper_case s)) (let z : 0 ≡ line_bytes edition * 0 = omega arith in z)
lines_back edition s cards seconds (suc n) h c x =
    rw (
      lines_back edition s cards seconds n (λ i l. h i (omega arith)) (λ i l. c i (omega arith)) (λ i l. x i (omega arith)),
      c n (omega arith),
      x n (omega arith),
      line_back edition s n (h n (omega arith)),
      mul-suc (line_bytes edition) n,
    )
    (sym (take-add (line_bytes edition * n) (line_bytes edition) (upper_case s)))

module _ (t : List ℕ) (l : Line t 0 header_digits) where
  field : (at n : ℕ) → at + n ≤ header_digits → hex n (number t at n) ≡ take n (drop at (upper_case t))
  field at n h = number_back t at n (field_digits t header_digits at n (line_true t 0 header_digits l) h) (omega (arith, l.inside))

  ends : end_of_line ≡ take 1 (drop header_digits (upper_case t))
  ends =
      let u = upper_case t in
      let k : 0 < length (drop header_digits u) = rw (length-drop, length_upper t) (omega (arith, l.inside)) in
      sym (take-suc (drop header_digits u) 0 0 k ∙ ap (λ (b : ℕ). b ∷ []) (get_or-drop header_digits u 0 0 ∙ end_stays t header_digits l.ends))

  header_back : header_text (header_of t) ≡ take header_bytes (upper_case t)
  unfolding header_of
  header_back =
      rw (field 0 2 (omega arith), field 2 2 (omega arith), field 4 2 (omega arith), field 6 4 (omega arith), field 10 4 (omega arith))
      (let u = upper_case t in
      rw (ends, parts_meet u 10 4 1, parts_meet u 6 4 5, parts_meet u 4 2 9, parts_meet u 2 2 11, parts_meet u 0 2 13))

-- a line of a whole ticket, in upper case, is that line of its lines
upper_line :
    (t : List ℕ) (edition p : ℕ)
    → upper_case (take (line_digits edition) (drop (header_bytes + line_bytes edition * p) t))
    ≡ take (line_digits edition) (drop (line_bytes edition * p) (upper_case (drop header_bytes t)))
upper_line t edition p =
    rw (← map_drop upper header_bytes t, drop-drop, map_drop upper (header_bytes + line_bytes edition * p) t)
    (sym (map_take upper (line_digits edition) (drop (header_bytes + line_bytes edition * p) t)))

module _ (t : List ℕ) (h : Header) (cards : List ℕ) (e : parse t ≡ accepted h cards) where
  pub written : ticket_text h cards (seconds_of t) ≡ upper_case t
  unfolding ticket_text
  written =
      let r = row t h cards e in
      let n = line_bytes h.edition * length cards in
      let b : length (upper_case (part t)) ≤ n = rw (length_upper (part t)) (omega (arith, text_length t h cards e, length-drop header_bytes t)) in
      rw (
        lines_back h.edition (part t) cards (seconds_of t) (length cards) (its_line t h cards e) (its_card t h cards e) (second_at_is t h cards e),
        take_all n (upper_case (part t)) b,
        r.its_header,
        header_back t r.header.line,
        ← map_drop upper header_bytes t,
      )
      (take-append-drop header_bytes (upper_case t))

  -- the line that is handed back is, in upper case, the frame's card and its second
  pub line_back_at :
      (p : ℕ) → p < length cards → upper_case (line_of t p) ≡ line_text h.edition (card_of cards p) (second_of (seconds_of t) p)
  unfolding line_of
  line_back_at p l =
      let own : line_of t p ≡ line_in t p = rw (e, lt-ltb p (length cards) l) in
      ap upper_case own
      ∙ upper_line t (edition_of t) p
      ∙ ap (λ (k : ℕ). take (line_digits k) (drop (line_bytes k * p) (upper_case (part t)))) (sym (its_edition t h cards e))
      ∙ sym (digits_back h.edition (part t) p (its_line t h cards e p l))
      ∙ rw (its_card t h cards e p l, second_at_is t h cards e p l)
