-- What holds of an accepted ticket: its values are within the limits, its text is as long as they say, and a frame's line holds its card.
-- Assumes nothing.
use Prim.Native.Nat.{ℕ, zero, suc, ◌+◌, ◌*◌, ◌≤◌, ◌<◌}
use mathlib.Core.Path.{◌≡◌, refl, sym, ap, ◌∙◌}
use mathlib.Core.List.{List}
use native.Mathlib.Omega.{arith}
use native.Mathlib.Nat.{mul-suc}
use lib.ListN.{length, length-drop}
use Rattle.counting.specs.Count.{tabulate}
use Rattle.counting.specs.Frames.{card_of}
use Rattle.counting.proofs.Lists.{length_tabulate, get_or_tabulate}
use Rattle.text.specs.Text.{Line}
use Rattle.frame_lines.specs.Lines.{card_at}
use Rattle.header.specs.Editions.{line_digits, line_bytes}
use Rattle.header.specs.Heading.{header_bytes, header_of, edition_of}
use Rattle.ticket.specs.Grounds.{Says, row1, row2, row3, row4, row5, row6, row7, row8, row17, row9, none}
use Rattle.ticket.specs.Grounds.{HeaderPasses, card, LinesPass, frames_of, part, Fits}
use Rattle.ticket.specs.Ticket.{Parsed, accepted, refused, parse, longest_ticket, line_start}
use Rattle.frame_lines.proofs.OneLine.{eight_of, few_bytes}
use Rattle.ticket.proofs.Reader.{says}
use Rattle.header.specs.declared.Header.{Header}

module _ (t : List ℕ) (h : Header) (cards : List ℕ) where
  -- the one row that accepts
  pub record Row : Type 0 where
    pub header : HeaderPasses t
    pub lines : LinesPass t (frames_of t)
    pub ends : length (part t) ≤ line_bytes (edition_of t) * frames_of t
    pub its_header : h ≡ header_of t
    pub its_cards : cards ≡ tabulate (frames_of t) (card t)

  impossible : (k : ℕ) → refused k ≡ accepted h cards → Row
  impossible k e = let z : ◌≡◌ {A = ℕ} 0 1 = cc in absurd (omega arith)

  row_of : (a : Parsed) → Says t a → a ≡ accepted h cards → Row
  row_of _ (row1 _) e = impossible 1 e
  row_of _ (row2 _ _) e = impossible 2 e
  row_of _ (row3 _ _ _) e = impossible 3 e
  row_of _ (row4 _ _ _ _) e = impossible 4 e
  row_of _ (row5 _ _ _ _ _) e = impossible 5 e
  row_of _ (row6 _ _ _ _ _ _) e = impossible 6 e
  row_of _ (row7 _ _ _ _ _) e = impossible 7 e
  row_of _ (row8 _ _ _ _ _ _) e = impossible 8 e
  row_of _ (row17 _ _ _ _ _ _ _) e = impossible 17 e
  row_of _ (row9 _ _ _) e = impossible 9 e
  row_of _ (none p q l) e = record { header = p; lines = q; ends = l; its_header = cc; its_cards = cc }

  module _ (e : parse t ≡ accepted h cards) where
    pub row : Row
    row = row_of (parse t) (says t) e

    pub as_many : length cards ≡ h.frames
    as_many = rw (row.its_cards, row.its_header) (length_tabulate (frames_of t) (card t))

    pub its_edition : h.edition ≡ edition_of t
    its_edition = ap (λ (x : Header). x.edition) row.its_header

    pub card_at_is : (i : ℕ) → i < length cards → card_of cards i ≡ card t i
    card_at_is i l =
        let k : i < frames_of t = rw (as_many, row.its_header) at l in
        rw row.its_cards (get_or_tabulate (frames_of t) (card t) i 0 k)

    pub fits : Fits h cards
    fits =
        let p = row.header in
        record {
          edition = rw row.its_header p.edition;
          mode = rw row.its_header p.mode;
          card_range = rw row.its_header p.cards;
          pool = rw row.its_header p.pool;
          frames = as_many;
          few = rw row.its_header p.frames;
          each_card = λ i l.
              let k : i < frames_of t = rw (as_many, row.its_header) at l in
              rw (card_at_is i l, row.its_header) (row.lines i k).its_card;
        }

    -- what the line of a frame says, in the words of the header that was read
    module _ (i : ℕ) (l : i < length cards) where
      pub its_line : Line (part t) (line_bytes h.edition * i) (line_digits h.edition)
      its_line = let k : i < frames_of t = rw (as_many, row.its_header) at l in rw its_edition (row.lines i k).line

      pub its_card : card_of cards i ≡ card_at h.edition (part t) i
      its_card = rw its_edition (card_at_is i l)

    pub line_inside : (i : ℕ) → i < length cards → line_start t i + line_bytes (edition_of t) ≤ length t
    line_inside i l =
        let k : i < frames_of t = rw (as_many, row.its_header) at l in
        omega (arith, (row.lines i k).line.inside, length-drop header_bytes t)

    -- the text is as long as its header says
    at_least : (n : ℕ) → n ≡ length cards → line_start t n ≤ length t
    at_least zero e = omega (arith, row.header.line.inside)
    at_least (suc n) e = omega (arith, line_inside n (omega arith), mul-suc (line_bytes (edition_of t)) n)

    length_as : length t ≡ line_start t (length cards)
    length_as =
        let n : length cards ≡ frames_of t = as_many ∙ ap (λ (x : Header). x.frames) row.its_header in
        let ends : length (part t) ≤ line_bytes (edition_of t) * length cards = rw n row.ends in
        omega (arith, at_least (length cards) refl, ends, length-drop header_bytes t)

    pub text_length : length t ≡ header_bytes + line_bytes h.edition * length cards
    text_length = length_as ∙ ap (λ (e : ℕ). header_bytes + line_bytes e * length cards) (sym its_edition)

    -- and so no longer than the longest
    pub not_longer : length t ≤ longest_ticket
    not_longer =
        omega (arith, text_length, eight_of refl, few_bytes h.edition (length cards) {d = line_digits h.edition} refl (rw as_many fits.few))
