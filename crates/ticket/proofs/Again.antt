-- Values within the limits, written as a ticket, are accepted as what they were.
-- Assumes nothing.
use Prim.Native.Nat.{ℕ, zero, suc, ◌+◌, ◌*◌, ◌^◌, ◌≤◌, ◌<◌}
use mathlib.Core.Path.{◌≡◌, sym, ap, subst, ◌∙◌}
use mathlib.Core.List.{List, [], ◌++◌, append_assoc, append-nil}
use native.Mathlib.Omega.{arith}
use native.Mathlib.Nat.{mul-suc}
use native.Mathlib.Decide.{ℕ_discrete}
use lib.ListN.{length, length-append}
use lib.Seq.{drop_at, ext_get_or}
use Rattle.counting.specs.Count.{tabulate}
use Rattle.counting.specs.Frames.{card_of}
use Rattle.counting.proofs.Lists.{length_tabulate, get_or_tabulate}
use Rattle.text.specs.Hex.{hex, end_of_line}
use Rattle.text.specs.Text.{number, Line}
use Rattle.text.proofs.Hex.{length_hex}
use Rattle.text.proofs.Again.{AllDigits, append_digits, hex_digits, digits_line, number_again, number_after, line_after}
use Rattle.header.specs.Editions.{Known, card_digits, second_digits, line_digits, line_bytes}
use Rattle.header.proofs.Widths.{known_small}
use Rattle.header.specs.Heading.{header_digits, header_bytes, header_of, edition_of}
use Rattle.header.specs.Limits.{Within, mode_save_and_keep, max_cards, max_pool, max_frames}
use Rattle.header.specs.declared.Header.{Header}
use Rattle.ticket.specs.Grounds.{HeaderPasses, LinePasses, none, Fits, card, part}
use Rattle.ticket.specs.Print.{line_text, line_texts, ticket_text}
use Rattle.frame_lines.specs.Lines.{card_at, second_at, second_before}
use Rattle.ticket.specs.Ticket.{accepted, parse}
use Rattle.ticket.specs.Seconds.{how_many_seconds, seconds_of, second_of, SecondsFit}
use Rattle.ticket.proofs.Seconds.{seconds_are, up_to_frames, all_fit, all_in_order}
use Rattle.ticket.proofs.Reader.{only}

-- The frame lines.
module _ (edition : ℕ) (cards seconds : List ℕ) where
  abbrev lines : ℕ → List ℕ
  lines n = line_texts edition cards seconds n

  -- line i, with its end byte
  abbrev line : ℕ → List ℕ
  line i = line_text edition (card_of cards i) (second_of seconds i) ++ end_of_line

  text_long : (i : ℕ) → length (line_text edition (card_of cards i) (second_of seconds i)) ≡ line_digits edition
  text_long i =
      omega (
        arith,
        length-append (hex card_digits (card_of cards i)) (hex (second_digits edition) (second_of seconds i)),
        length_hex card_digits (card_of cards i),
        length_hex (second_digits edition) (second_of seconds i),
      )

  pub lines_long : (n : ℕ) → length (lines n) ≡ line_bytes edition * n
  unfolding line_texts
  lines_long zero = omega arith
  lines_long (suc n) =
      omega (
        arith,
        length-append (lines n) (line n),
        length-append (line_text edition (card_of cards n) (second_of seconds n)) end_of_line,
        text_long n,
        lines_long n,
        mul-suc (line_bytes edition) n,
      )

  -- the lines before one of them, that one, and what follows
  lines_split : (n i : ℕ) → i < n → (rest : List ℕ) × (lines n ≡ lines i ++ (line i ++ rest))
  unfolding line_texts
  lines_split zero i l = absurd (omega arith)
  lines_split (suc n) i l =
      elim (ℕ_discrete i n) [
        | yes e ↦ ([], rw (e, append-nil (line n)))
        | no k ↦
            (let r = lines_split n i (omega arith) in
            (r.0 ++ line n, rw (r.1, append_assoc (lines i) (line i ++ r.0) (line n), append_assoc (line i) r.0 (line n))))
      ]

  module _ (n i : ℕ) (l : i < n) where
    abbrev rest : List ℕ
    rest = (lines_split n i l).0

    -- the bytes from the line's first digit on, and from its second on
    abbrev from_card : List ℕ
    from_card = hex card_digits (card_of cards i) ++ (hex (second_digits edition) (second_of seconds i) ++ (end_of_line ++ rest))

    fields : line i ++ rest ≡ from_card
    fields =
        rw (
          append_assoc (line_text edition (card_of cards i) (second_of seconds i)) end_of_line rest,
          append_assoc (hex card_digits (card_of cards i)) (hex (second_digits edition) (second_of seconds i)) (end_of_line ++ rest),
        )

    whole : lines n ≡ lines i ++ from_card
    whole = (lines_split n i l).1 ∙ ap (λ (x : List ℕ). lines i ++ x) fields

    -- place k of line i
    place : (k : ℕ) → line_bytes edition * i + k ≡ length (lines i) + k
    place k = omega (arith, lines_long i)

    line_here : Line (line i ++ rest) 0 (line_digits edition)
    line_here =
        let text = line_text edition (card_of cards i) (second_of seconds i) in
        rw (append_assoc text end_of_line rest)
        (digits_line text rest (line_digits edition) (text_long i)
        (append_digits (hex card_digits (card_of cards i)) (hex (second_digits edition) (second_of seconds i)) (hex_digits card_digits (card_of cards i))
        (hex_digits (second_digits edition) (second_of seconds i))))

    line_at : Line (lines n) (line_bytes edition * i) (line_digits edition)
    line_at =
        rw (lines_split n i l).1
        (line_after (lines i) (line i ++ rest) 0 (line_bytes edition * i) (omega (arith, lines_long i)) (line_digits edition) line_here)

    card_again : card_of cards i < 256 → card_at edition (lines n) i ≡ card_of cards i
    unfolding card_at
    card_again h =
        ap (λ (x : List ℕ). number x (line_bytes edition * i) card_digits) whole
        ∙ number_after (lines i) from_card 0 (line_bytes edition * i) (omega (arith, lines_long i)) card_digits
        ∙ number_again card_digits (card_of cards i) (hex (second_digits edition) (second_of seconds i) ++ (end_of_line ++ rest)) h

    second_again : second_of seconds i < 16 ^ second_digits edition → second_at edition (lines n) i ≡ second_of seconds i
    unfolding second_at
    second_again h =
        let card = hex card_digits (card_of cards i) in
        let from_Second = hex (second_digits edition) (second_of seconds i) ++ (end_of_line ++ rest) in
        ap (λ (x : List ℕ). number x (line_bytes edition * i + card_digits) (second_digits edition)) whole
        ∙ number_after (lines i) from_card card_digits (line_bytes edition * i + card_digits) (place card_digits) (second_digits edition)
        ∙ number_after card from_Second 0 card_digits (omega (arith, length_hex card_digits (card_of cards i))) (second_digits edition)
        ∙ number_again (second_digits edition) (second_of seconds i) (end_of_line ++ rest) h

  -- the second of the line before
  before_again :
      (n i : ℕ) → ((j : ℕ) → j < n → second_of seconds j < 16 ^ second_digits edition)
      → ((j : ℕ) → suc j < n → second_of seconds j ≤ second_of seconds (suc j)) → i < n → second_before edition (lines n) i ≤ second_of seconds i
  unfolding second_before
  before_again n zero small order l = omega arith
  before_again n (suc i) small order l = omega (arith, second_again n i (omega arith) (small i (omega arith)), order i l)

module _ (h : Header) (cards seconds : List ℕ) (f : Fits h cards) (g : SecondsFit h.edition (length cards) seconds) where
  abbrev t : List ℕ
  t = ticket_text h cards seconds

  abbrev its_lines : List ℕ
  its_lines = line_texts h.edition cards seconds (length cards)

  abbrev after : List ℕ
  after = end_of_line ++ its_lines

  -- the header's fields one after the other
  abbrev digits14 : List ℕ
  digits14 = hex 2 h.edition ++ (hex 2 h.mode ++ (hex 2 h.cards ++ (hex 4 h.pool ++ hex 4 h.frames)))

  abbrev from10 : List ℕ
  from10 = hex 4 h.frames ++ after

  abbrev from6 : List ℕ
  from6 = hex 4 h.pool ++ from10

  abbrev from4 : List ℕ
  from4 = hex 2 h.cards ++ from6

  abbrev from2 : List ℕ
  from2 = hex 2 h.mode ++ from4

  header_fields : t ≡ hex 2 h.edition ++ from2
  unfolding ticket_text
  header_fields =
      rw (
        append_assoc (hex 2 h.edition) (hex 2 h.mode ++ (hex 2 h.cards ++ (hex 4 h.pool ++ (hex 4 h.frames ++ end_of_line)))) (its_lines),
        append_assoc (hex 2 h.mode) (hex 2 h.cards ++ (hex 4 h.pool ++ (hex 4 h.frames ++ end_of_line))) (its_lines),
        append_assoc (hex 2 h.cards) (hex 4 h.pool ++ (hex 4 h.frames ++ end_of_line)) (its_lines),
        append_assoc (hex 4 h.pool) (hex 4 h.frames ++ end_of_line) (its_lines),
        append_assoc (hex 4 h.frames) end_of_line (its_lines),
      )

  joined : digits14 ++ after ≡ hex 2 h.edition ++ from2
  joined =
      rw (
        append_assoc (hex 2 h.edition) (hex 2 h.mode ++ (hex 2 h.cards ++ (hex 4 h.pool ++ hex 4 h.frames))) after,
        append_assoc (hex 2 h.mode) (hex 2 h.cards ++ (hex 4 h.pool ++ hex 4 h.frames)) after,
        append_assoc (hex 2 h.cards) (hex 4 h.pool ++ hex 4 h.frames) after,
        append_assoc (hex 4 h.pool) (hex 4 h.frames) after,
      )

  at2 : (n at k : ℕ) → k ≡ 2 + at → number t k n ≡ number from2 at n
  at2 n at k e = rw header_fields (number_after (hex 2 h.edition) from2 at k (rw (length_hex 2 h.edition) e) n)

  at4 : (n at k : ℕ) → k ≡ 4 + at → number t k n ≡ number from4 at n
  at4 n at k e = at2 n (2 + at) k (omega (arith, e)) ∙ number_after (hex 2 h.mode) from4 at (2 + at) (rw (length_hex 2 h.mode)) n

  at6 : (n at k : ℕ) → k ≡ 6 + at → number t k n ≡ number from6 at n
  at6 n at k e = at4 n (2 + at) k (omega (arith, e)) ∙ number_after (hex 2 h.cards) from6 at (2 + at) (rw (length_hex 2 h.cards)) n

  header_again : header_of t ≡ h
  unfolding header_of
  header_again =
      let e : number t 0 2 ≡ h.edition = rw header_fields (number_again 2 h.edition from2 (known_small h.edition f.edition)) in
      let m : number t 2 2 ≡ h.mode = at2 2 0 2 (omega arith) ∙ number_again 2 h.mode from4 (omega (arith, f.mode)) in
      let c : number t 4 2 ≡ h.cards = at4 2 0 4 (omega arith) ∙ number_again 2 h.cards from6 (omega (arith, f.card_range.1)) in
      let p : number t 6 4 ≡ h.pool = at6 4 0 6 (omega arith) ∙ number_again 4 h.pool from10 (omega (arith, f.pool.1)) in
      let q : number t 10 4 ≡ h.frames =
      at6 4 4 10 (omega arith)
      ∙ number_after (hex 4 h.pool) from10 0 4 (omega (arith, length_hex 4 h.pool)) 4
      ∙ number_again 4 h.frames after (omega (arith, f.few)) in
      rw (e, m, c, p, q)

  header_all_digits : AllDigits digits14
  header_all_digits =
      let a = hex 4 h.pool ++ hex 4 h.frames in
      let b = hex 2 h.cards ++ a in
      let c = hex 2 h.mode ++ b in
      append_digits (hex 2 h.edition) c (hex_digits 2 h.edition)
      (append_digits (hex 2 h.mode) b (hex_digits 2 h.mode)
      (append_digits (hex 2 h.cards) a (hex_digits 2 h.cards)
      (append_digits (hex 4 h.pool) (hex 4 h.frames) (hex_digits 4 h.pool) (hex_digits 4 h.frames))))

  header_long : length digits14 ≡ header_digits
  header_long =
      let a = hex 4 h.pool ++ hex 4 h.frames in
      let b = hex 2 h.cards ++ a in
      let c = hex 2 h.mode ++ b in
      omega (
        arith,
        length-append (hex 2 h.edition) c,
        length-append (hex 2 h.mode) b,
        length-append (hex 2 h.cards) a,
        length-append (hex 4 h.pool) (hex 4 h.frames),
        length_hex 2 h.edition,
        length_hex 2 h.mode,
        length_hex 2 h.cards,
        length_hex 4 h.pool,
        length_hex 4 h.frames,
      )

  header_whole : t ≡ digits14 ++ after
  header_whole = header_fields ∙ sym joined

  header_line : Line t 0 header_digits
  header_line = rw header_whole (digits_line digits14 (its_lines) header_digits header_long header_all_digits)

  part_again : part t ≡ its_lines
  part_again =
      let e : length (digits14 ++ end_of_line) ≡ header_bytes = omega (arith, header_long, length-append digits14 end_of_line) in
      rw (header_whole, ← append_assoc digits14 end_of_line (its_lines)) (drop_at (digits14 ++ end_of_line) (its_lines) header_bytes e)

  -- what holds of h holds of the header that is read
  of_header : (P : Header → Type 0) → P h → P (header_of t)
  of_header P p = subst P (sym header_again) p

  passes : HeaderPasses t
  passes =
      record {
        line = header_line;
        edition = of_header (λ x. Known x.edition) f.edition;
        mode = of_header (λ x. x.mode ≤ mode_save_and_keep) f.mode;
        cards = of_header (λ x. Within max_cards x.cards) f.card_range;
        pool = of_header (λ x. Within max_pool x.pool) f.pool;
        frames = of_header (λ x. x.frames ≤ max_frames) f.few;
      }

  below : (i : ℕ) → i < length cards → card_of cards i < 256
  below i l = omega (arith, f.each_card i l, f.card_range.1)

  lines_pass : (i : ℕ) → i < (header_of t).frames → LinePasses t i
  lines_pass i l =
      let k : i < length cards = omega (arith, l, ap (λ (x : Header). x.frames) header_again, f.frames) in
      let small = all_fit h.edition (length cards) seconds g in
      let order = all_in_order h.edition (length cards) seconds g in
      let e = h.edition in
      record {
        line = of_header (λ x. Line (part t) (line_bytes x.edition * i) (line_digits x.edition))
            (rw part_again (line_at e cards seconds (length cards) i k));
        its_card = of_header (λ x. card_at x.edition (part t) i < x.cards)
            (rw (part_again, card_again e cards seconds (length cards) i k (below i k)) (f.each_card i k));
        its_second = of_header (λ x. second_before x.edition (part t) i ≤ second_at x.edition (part t) i)
            (rw (part_again, second_again e cards seconds (length cards) i k (small i k))
            (before_again e cards seconds (length cards) i small order k));
      }

  cards_again : tabulate (header_of t).frames (card t) ≡ cards
  cards_again =
      of_header (λ x. tabulate x.frames (card_at x.edition (part t)) ≡ cards)
      (rw (part_again, ← f.frames)
      (ext_get_or 0 (tabulate (length cards) (card_at h.edition its_lines)) cards (length_tabulate (length cards) (card_at h.edition its_lines))
      (λ i l.
      let k : i < length cards = rw (length_tabulate (length cards) (card_at h.edition its_lines)) at l in
      get_or_tabulate (length cards) (card_at h.edition its_lines) i 0 k ∙ card_again h.edition cards seconds (length cards) i k (below i k))))

  pub accepted_again : parse t ≡ accepted h cards
  accepted_again =
      let end : length (part t) ≤ line_bytes (edition_of t) * (header_of t).frames =
      of_header (λ x. length (part t) ≤ line_bytes x.edition * x.frames)
      (rw (part_again, ← f.frames) (omega (arith, lines_long h.edition cards seconds (length cards)))) in
      only t (accepted (header_of t) (tabulate (header_of t).frames (card t))) (none passes lines_pass end) ∙ rw (cards_again, header_again)

  pub seconds_again : seconds_of t ≡ seconds
  seconds_again =
      let e = seconds_are t h cards accepted_again in
      let n = how_many_seconds h.edition (length cards) in
      e ∙ ext_get_or 0 (tabulate n (second_at h.edition (part t))) seconds (length_tabulate n (second_at h.edition (part t)) ∙ sym g.each)
      (λ i l.
      let k : i < n = rw (length_tabulate n (second_at h.edition (part t))) at l in
      let m : i < length cards = omega (arith, k, up_to_frames h.edition (length cards)) in
      get_or_tabulate n (second_at h.edition (part t)) i 0 k
      ∙ rw part_again
      (second_again h.edition cards seconds (length cards) i m (all_fit h.edition (length cards) seconds g i m)))
