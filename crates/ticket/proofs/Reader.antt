-- The reader's definition `parse` answers every text as the table of document 01 says (specs/Grounds), and in no other way.
-- Assumes nothing.
use Prim.Native.Nat.{ℕ, zero, suc, ◌*◌, ◌≤◌, ◌<◌}
use mathlib.Core.Path.{◌≡◌, sym, ◌∙◌}
use mathlib.Core.List.{List}
use mathlib.Core.Logic.{◌⊎◌, inl, inr, ⊎_elim}
use native.Mathlib.Omega.{arith}
use native.Mathlib.Decide.{dec_le, dec_lt, ℕ_discrete}
use lib.ListN.{length}
use borrow.Author.Tests.{ne_eqb}
use Rattle.counting.specs.Count.{tabulate}
use Rattle.text.specs.Text.{Line}
use Rattle.text.proofs.Lines.{line_true, line_false, line_or_not}
use Rattle.header.specs.Editions.{edition2, Known, line_digits, line_bytes}
use Rattle.header.specs.Heading.{header_digits, header_of, edition_of, heading}
use Rattle.header.specs.Limits.{mode_save_and_keep, max_cards, max_pool, max_frames, Within, Outside}
use Rattle.header.proofs.Judged.{range, judge_3, judge_4, judge_5, judge_6, heading_1, heading_2, heading_passes}
use Rattle.header.proofs.Widths.{known_or_not, no_second}
use Rattle.ticket.specs.Grounds.{TicketRefusal, Says, row1, row2, row3, row4, row5, row6, row7, row8, row17, row9, none}
use Rattle.ticket.specs.Grounds.{HeaderPasses, LineAt, card, second, before, LinePasses, LinesPass, mode_of, cards_of, pool_of, frames_of, part}
use Rattle.frame_lines.specs.Lines.{part_fault}
use Rattle.ticket.specs.Ticket.{Parsed, accepted, refused, parse}
use Rattle.frame_lines.proofs.Faults.{line_7, line_8, line_17, refuses, part_9, part_0}
use Rattle.frame_lines.proofs.OneLine.{nothing_asked}
use Rattle.ticket.proofs.Passing.{header_accepted, lines_accepted}
use Rattle.header.specs.declared.Header.{Header}
use Rattle.std.specs.Prelude.{Ok, Err}

module _ (t : List ℕ) where
  -- from the header's answer, and the part's refusal, to the ticket's answer
  pub header_refused : (k : ℕ) → heading t ≡ Err k → parse t ≡ refused k
  unfolding parse
  header_refused k e = rw e

  by_part : (k : ℕ) → HeaderPasses t → part_fault (edition_of t) (part t) (cards_of t) (frames_of t) ≡ k → (k ≡ 0 → ⊥) → parse t ≡ refused k
  unfolding parse
  by_part k p e h = rw (header_accepted t p, e, ne_eqb _ _ h)

  by_none :
      HeaderPasses t → part_fault (edition_of t) (part t) (cards_of t) (frames_of t) ≡ 0
      → parse t ≡ accepted (header_of t) (tabulate (frames_of t) (card t))
  unfolding parse
  by_none p e = rw (header_accepted t p, e)

  -- each row is what `parse` gives
  pub only : (a : Parsed) → Says t a → parse t ≡ a
  only _ (row1 n) = header_refused 1 (heading_1 t (line_false _ _ _ n))
  only _ (row2 l e) = header_refused 2 (heading_2 t (line_true _ _ _ l) e)
  only _ (row3 l e m) = header_refused 3 (heading_passes t (line_true _ _ _ l) e ∙ judge_3 _ m)
  only _ (row4 l e m c) = header_refused 4 (heading_passes t (line_true _ _ _ l) e ∙ judge_4 _ m c)
  only _ (row5 l e m c p) = header_refused 5 (heading_passes t (line_true _ _ _ l) e ∙ judge_5 _ m c p)
  only _ (row6 l e m c p f) = header_refused 6 (heading_passes t (line_true _ _ _ l) e ∙ judge_6 _ m c p f)
  only _ (row7 p i l q n) =
      by_part 7 p (refuses _ _ _ _ i 7 l (lines_accepted t i q) (line_7 _ _ _ i (line_false _ _ _ n)) (λ z. omega arith)) (λ z. omega arith)
  only _ (row8 p i l q n c) =
      by_part 8 p (refuses _ _ _ _ i 8 l (lines_accepted t i q) (line_8 _ _ _ i (line_true _ _ _ n) c) (λ z. omega arith)) (λ z. omega arith)
  only _ (row17 p i l q n c f) =
      by_part 17 p (refuses _ _ _ _ i 17 l (lines_accepted t i q) (line_17 _ _ _ i (line_true _ _ _ n) c f) (λ z. omega arith)) (λ z. omega arith)
  only _ (row9 p q l) = by_part 9 p (part_9 _ _ _ _ (lines_accepted t (frames_of t) q) l) (λ z. omega arith)
  only _ (none p q l) = by_none p (part_0 _ _ _ _ (lines_accepted t (frames_of t) q) l)

  given : {a : Parsed} → Says t a → Says t (parse t)
  given {a} s = rw (only a s) s

  -- the first line that is refused, if there is one
  data Err-at (i : ℕ) : Type 0 where
    no_line : (LineAt t i → ⊥) → Err-at i
    no_card : LineAt t i → cards_of t ≤ card t i → Err-at i
    falls : LineAt t i → card t i < cards_of t → second t i < before t i → Err-at i

  Found : ℕ → Type 0
  Found n = (i : ℕ) × (i < n) × LinesPass t i × Err-at i

  -- what line i is
  at_line : (i : ℕ) → LinePasses t i ⊎ Err-at i
  at_line i =
      ⊎_elim
      (λ l.
      elim (dec_lt (card t i) (cards_of t)) [
        | yes h ↦
            elim (dec_lt (second t i) (before t i)) [
              | yes f ↦ inr (falls l h f)
              | no f ↦ inl (record { line = l; its_card = h; its_second = omega arith })
            ]
        | no h ↦ inr (no_card l (omega arith))
      ])
      (λ n. inr (no_line n))
      (line_or_not (part t) (line_bytes (edition_of t) * i) (line_digits (edition_of t)))

  one_more : (n : ℕ) → LinesPass t n → LinePasses t n → LinesPass t (suc n)
  one_more n q p i l = elim (dec_lt i n) [ yes h ↦ q i h | no h ↦ (let e : i ≡ n = omega arith in rw e p) ]

  find : (n : ℕ) → LinesPass t n ⊎ Found n
  unfolding Found
  find zero = inl (λ i l. absurd (omega arith))
  find (suc n) =
      ⊎_elim
      (λ q. ⊎_elim (λ p. inl (one_more n q p)) (λ b. inr (n, omega arith, q, b)) (at_line n))
      (λ f. inr (f.0, omega (arith, f.1), f.2, f.3))
      (find n)

  says_refused : HeaderPasses t → (i : ℕ) → i < frames_of t → LinesPass t i → Err-at i → Says t (parse t)
  says_refused p i l q (no_line n) = given (row7 p i l q n)
  says_refused p i l q (no_card n c) = given (row8 p i l q n c)
  says_refused p i l q (falls n c f) = given (row17 p i l q n c f)

  says_lines : HeaderPasses t → Says t (parse t)
  unfolding Found
  says_lines p =
      ⊎_elim
      (λ q.
      elim (dec_lt (line_bytes (edition_of t) * frames_of t) (length (part t))) [
        | yes l ↦ given (row9 p q l)
        | no l ↦ given (none p q (omega arith))
      ])
      (λ f. says_refused p f.0 f.1 f.2 f.3)
      (find (frames_of t))

  -- the header: none of its grounds, or one of its rows
  HeaderRow : Type 0
  HeaderRow = HeaderPasses t ⊎ ((k : ℕ) × (heading t ≡ Err k) × Says t (refused k))

  module _ (l : Line t 0 header_digits) (e : Known (edition_of t)) (m : mode_of t ≤ mode_save_and_keep) (c : Within max_cards (cards_of t)) where
    row_by_frames : Within max_pool (pool_of t) → HeaderRow
    unfolding HeaderRow
    row_by_frames p =
        elim (dec_le (frames_of t) max_frames) [
          | yes f ↦ inl (record { line = l; edition = e; mode = m; cards = c; pool = p; frames = f })
          | no f ↦
              (let f : max_frames < frames_of t = omega arith in
              inr (6, heading_passes t (line_true _ _ _ l) e ∙ judge_6 _ m c p f, row6 l e m c p f))
        ]

    row_by_pool : HeaderRow
    unfolding HeaderRow
    row_by_pool =
        ⊎_elim row_by_frames (λ p. inr (5, heading_passes t (line_true _ _ _ l) e ∙ judge_5 _ m c p, row5 l e m c p)) (range max_pool (pool_of t))

  module _ (l : Line t 0 header_digits) where
    row_by_cards : Known (edition_of t) → mode_of t ≤ mode_save_and_keep → HeaderRow
    unfolding HeaderRow
    row_by_cards e m =
        ⊎_elim (row_by_pool l e m) (λ c. inr (4, heading_passes t (line_true _ _ _ l) e ∙ judge_4 _ m c, row4 l e m c)) (range max_cards (cards_of t))

    row_by_mode : Known (edition_of t) → HeaderRow
    unfolding HeaderRow
    row_by_mode e =
        elim (dec_le (mode_of t) mode_save_and_keep) [
          | yes m ↦ row_by_cards e m
          | no m ↦
              (let m : mode_save_and_keep < mode_of t = omega arith in
              inr (3, heading_passes t (line_true _ _ _ l) e ∙ judge_3 _ m, row3 l e m))
        ]

    row_by_edition : HeaderRow
    unfolding HeaderRow
    row_by_edition =
        ⊎_elim row_by_mode (λ e. inr (2, heading_2 t (line_true _ _ _ l) e, row2 l e)) (known_or_not (edition_of t))

  header_row : HeaderRow
  unfolding HeaderRow
  header_row = ⊎_elim row_by_edition (λ n. inr (1, heading_1 t (line_false _ _ _ n), row1 n)) (line_or_not t 0 header_digits)

  -- `parse` gives a row
  pub says : Says t (parse t)
  unfolding HeaderRow
  says = ⊎_elim says_lines (λ r. given r.2) header_row

  -- an accepted header is the text's own, and within the limits
  pub header_passes : (h : Header) → heading t ≡ Ok h → HeaderPasses t
  unfolding HeaderRow
  header_passes h e = ⊎_elim (λ p. p) (λ r. let q = r.1 in let z : ◌≡◌ {A = ℕ} 0 1 = cc in absurd (omega arith)) header_row

  pub header_read : (h : Header) → heading t ≡ Ok h → h ≡ header_of t
  header_read h e = let q = header_accepted t (header_passes h e) in cc

  -- a refusal's number is one of 1 to 9, or 17, which only edition 02 has
  one_of : (k j : ℕ) → 1 ≤ k → k ≤ 9 → refused k ≡ refused j → TicketRefusal t j
  one_of k j l h e = let q : k ≡ j = cc in inl (omega arith, omega arith)

  falls_in : (i : ℕ) → second t i < before t i → edition_of t ≡ edition2
  falls_in i f =
      elim (ℕ_discrete (edition_of t) edition2) [
        | yes e ↦ e
        | no n ↦ absurd (omega (arith, f, (nothing_asked (edition_of t) (part t) (no_second (edition_of t) n) 0 i).1))
      ]

  number_of : (a : Parsed) (k : ℕ) → Says t a → a ≡ refused k → TicketRefusal t k
  number_of _ k (row1 _) e = one_of 1 k (omega arith) (omega arith) e
  number_of _ k (row2 _ _) e = one_of 2 k (omega arith) (omega arith) e
  number_of _ k (row3 _ _ _) e = one_of 3 k (omega arith) (omega arith) e
  number_of _ k (row4 _ _ _ _) e = one_of 4 k (omega arith) (omega arith) e
  number_of _ k (row5 _ _ _ _ _) e = one_of 5 k (omega arith) (omega arith) e
  number_of _ k (row6 _ _ _ _ _ _) e = one_of 6 k (omega arith) (omega arith) e
  number_of _ k (row7 _ _ _ _ _) e = one_of 7 k (omega arith) (omega arith) e
  number_of _ k (row8 _ _ _ _ _ _) e = one_of 8 k (omega arith) (omega arith) e
  number_of _ k (row17 _ i _ _ _ _ f) e = let q : 17 ≡ k = cc in inr (sym q, falls_in i f)
  number_of _ k (row9 _ _ _) e = one_of 9 k (omega arith) (omega arith) e
  number_of _ k (none _ _ _) e = let z : ◌≡◌ {A = ℕ} 0 1 = cc in absurd (omega arith)

  pub refusal_number : (k : ℕ) → parse t ≡ refused k → TicketRefusal t k
  refusal_number k e = number_of (parse t) k says e

  pub refusal_above : (k : ℕ) → parse t ≡ refused k → 1 ≤ k
  refusal_above k e = ⊎_elim (λ w. w.0) (λ q. omega (arith, q.0)) (refusal_number k e)

  -- 5 is given for a pool out of range alone
  not_five : (k : ℕ) → (k ≡ 5 → ⊥) → refused k ≡ refused 5 → Outside max_pool (pool_of t)
  not_five k n e = let q : k ≡ 5 = cc in absurd (n q)

  five : (a : Parsed) → Says t a → a ≡ refused 5 → Outside max_pool (pool_of t)
  five _ (row5 _ _ _ _ o) e = o
  five _ (row1 _) e = not_five 1 (λ q. omega (arith, q)) e
  five _ (row2 _ _) e = not_five 2 (λ q. omega (arith, q)) e
  five _ (row3 _ _ _) e = not_five 3 (λ q. omega (arith, q)) e
  five _ (row4 _ _ _ _) e = not_five 4 (λ q. omega (arith, q)) e
  five _ (row6 _ _ _ _ _ _) e = not_five 6 (λ q. omega (arith, q)) e
  five _ (row7 _ _ _ _ _) e = not_five 7 (λ q. omega (arith, q)) e
  five _ (row8 _ _ _ _ _ _) e = not_five 8 (λ q. omega (arith, q)) e
  five _ (row17 _ _ _ _ _ _ _) e = not_five 17 (λ q. omega (arith, q)) e
  five _ (row9 _ _ _) e = not_five 9 (λ q. omega (arith, q)) e
  five _ (none _ _ _) e = let z : ◌≡◌ {A = ℕ} 0 1 = cc in absurd (omega arith)

  pub pool_outside : parse t ≡ refused 5 → Outside max_pool (pool_of t)
  pool_outside e = five (parse t) says e
