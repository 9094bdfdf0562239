-- What the public calls answer, from what the parts of the reader found.
-- Assumes nothing.
use Prim.Native.Nat.{ℕ, ◌+◌, ◌-◌, ◌*◌, ◌≤◌, ◌<◌}
use mathlib.Core.Path.{◌≡◌, refl, sym, ap, ◌∙◌}
use mathlib.Core.Bool.{true}
use mathlib.Core.List.{List, [], ◌++◌}
use native.Mathlib.Omega.{arith}
use native.Mathlib.Nat.{mul-le-mul}
use lib.ListN.{length, take, drop, replicate, length-append, length-drop, take-append-drop, get_or-append}
use lib.Seq.{take_at, length-take-le}
use borrow.Author.Tests.{ne_eqb, lt-ltb, le-ltb, ltb-true}
use lib.Dec.{ltb}
use Rattle.counting.specs.Frames.{card_of}
use Rattle.counting.proofs.Bits.{by_cases}
use Rattle.counting.proofs.Counted.{counts_front}
use Rattle.counting.proofs.Parts.{from_place}
use Rattle.text.specs.Text.{is_line}
use Rattle.text.proofs.Lines.{line_true}
use Rattle.header.specs.Numbers.{numbers_of}
use Rattle.header.proofs.Widths.{widest}
use Rattle.header.specs.Limits.{max_cards, max_frames}
use Rattle.ticket.specs.Grounds.{Fits, ReadAs}
use Rattle.ticket.specs.Part.{address}
use Rattle.frame_lines.specs.Lines.{second_at}
use Rattle.frame_lines.specs.Tally.{counts_up_to}
use Rattle.ticket.specs.Ticket.{Parsed, accepted, refused, parse, answer_in, read_into, zeros, ticket_of, numbers_in, counts_of}
use Rattle.header.specs.Editions.{line_bytes, line_digits}
use Rattle.header.specs.Heading.{header_bytes, edition_of}
use Rattle.ticket.specs.Ticket.{line_refusal_of, line_start, line_in, line_of, line_place}
use Rattle.ticket.specs.Seconds.{seconds_of, second_of}
use Rattle.ticket.proofs.Accepted.{as_many, its_edition, fits, its_line, line_inside, text_length}
use Rattle.ticket.proofs.Seconds.{second_at_is, second_past}
use Rattle.ticket.proofs.Memory.{into_accepted, into_long, into_zeros}
use Rattle.ticket.proofs.Reader.{refusal_above}
use Rattle.header.specs.declared.Header.{Header}
use Rattle.std.specs.Prelude.{Result, Ok, Err}

-- from the answer to what the text is read as
answer_refused : (p : Parsed) (k : ℕ) → answer_in p ≡ Err k → p ≡ refused k
answer_refused (accepted h cards) k e = let z : ◌≡◌ {A = ℕ} 0 1 = cc in absurd (omega arith)
answer_refused (refused j) k e = let q : j ≡ k = cc in ap refused q

answer_accepted : (p : Parsed) (h : Header) → answer_in p ≡ Ok h → (cards : List ℕ) × (p ≡ accepted h cards)
answer_accepted (accepted g cards) h e = let q : g ≡ h = cc in (cards, ap (λ (x : Header). accepted x cards) q)
answer_accepted (refused j) h e = let z : ◌≡◌ {A = ℕ} 0 1 = cc in absurd (omega arith)

module _ (t : List ℕ) (a : Result Header ℕ) (e : a ≡ answer_in (parse t)) where
  pub was_refused : (k : ℕ) → a ≡ Err k → parse t ≡ refused k
  was_refused k q = answer_refused (parse t) k (sym e ∙ q)

  pub was_accepted : (h : Header) → a ≡ Ok h → (cards : List ℕ) × (parse t ≡ accepted h cards)
  was_accepted h q = answer_accepted (parse t) h (sym e ∙ q)

  -- the number beside a line
  pub number_refused : (k p : ℕ) → a ≡ Err k → k ≡ line_refusal_of (parse t) p
  number_refused k p q = rw (was_refused k q)

  pub below : (h : Header) (p : ℕ) → a ≡ Ok h → p < h.frames → 0 ≡ line_refusal_of (parse t) p
  below h p q l = let r = was_accepted h q in rw (r.1, lt-ltb p (length r.0) (rw (as_many t h r.0 r.1) l))

  pub not_below : (h : Header) (p : ℕ) → a ≡ Ok h → h.frames ≤ p → 16 ≡ line_refusal_of (parse t) p
  not_below h p q l = let r = was_accepted h q in rw (r.1, le-ltb p (length r.0) (rw (as_many t h r.0 r.1) l))

-- where a part stands that begins at byte i of a slice; at byte 0 it stands where the slice does
module _ (start : ℕ × ℕ) where
  pub stands : {i j : ℕ} → i ≡ j → ◌≡◌ {A = ℕ × ℕ} (start.0, i + start.1) (address start j)
  stands {i} {j} e = ap (λ (k : ℕ). (start.0, k)) (let q : i + start.1 ≡ start.1 + j = omega (arith, e) in q)

  pub stands_first : ◌≡◌ {A = ℕ × ℕ} (start.0, 0 + start.1) start
  stands_first = ap (λ (k : ℕ). (start.0, k)) (let q : 0 + start.1 ≡ start.1 = omega arith in q)

-- where a line begins, with the width as the code has it
module _ (t : List ℕ) (p : ℕ) {d : ℕ} (q : d ≡ line_digits (edition_of t)) where
  pub place_small : p < 65536 → (d + 1) * p ≤ 720896
  place_small l = mul-le-mul {n₁ = d + 1} {m₁ = p} {n₂ = 11} {m₂ = 65536} (omega (arith, q, widest (edition_of t))) (omega arith)

  pub place_is : header_bytes + (d + 1) * p ≡ line_start t p
  place_is = ap (λ (x : ℕ). header_bytes + (x + 1) * p) q

-- whatever the position, the end of its line is far below 2 to the 64
pub end_small : (t : List ℕ) (p : ℕ) → p < 65536 → line_start t p + line_digits (edition_of t) ≤ 720921
end_small t p l = omega (arith, place_small t p {d = line_digits (edition_of t)} refl l, widest (edition_of t))

-- the part of any bytes that is cut out where a line begins
pub cut_line :
    (t : List ℕ) (p : ℕ) {at d : ℕ} → at ≡ line_start t p → d ≡ line_digits (edition_of t) → take (at + d - at) (drop at t) ≡ line_in t p
cut_line t p {at} {d} a q = let n : at + d - at ≡ d = omega arith in rw (n, q, a)

-- a frame's line
module _ (t : List ℕ) (p : ℕ) where
  module _ {k : ℕ} (e : k ≡ line_refusal_of (parse t) p) (n : k ≡ 0 → ⊥) where
    pub no_line : [] ≡ line_of t p
    unfolding line_of
    no_line = rw (← e, ne_eqb _ _ n)

    pub no_place : 0 ≡ line_place t p
    unfolding line_place
    no_place = rw (← e, ne_eqb _ _ n)

  module _ (e : 0 ≡ line_refusal_of (parse t) p) where
    inside : (a : Parsed) → parse t ≡ a → 0 ≡ line_refusal_of a p → line_start t p + line_bytes (edition_of t) ≤ length t
    inside (accepted h cards) q z =
        line_inside t h cards q p (by_cases (ltb p (length cards)) (λ l. ltb-true _ _ l) (λ l. absurd (omega (arith, rw l at z))))
    inside (refused k) q z = absurd (omega (arith, refusal_above t k q))

    pub line_fits : line_start t p + line_bytes (edition_of t) ≤ length t
    line_fits = inside (parse t) refl e

    pub the_line : {at d : ℕ} → at ≡ line_start t p → d ≡ line_digits (edition_of t) → take (at + d - at) (drop at t) ≡ line_of t p
    unfolding line_of
    the_line a q = cut_line t p a q ∙ rw (← e)

    -- a line has its digits
    pub line_length : length (line_of t p) ≡ line_digits (edition_of t)
    line_length =
        let l : line_digits (edition_of t) ≤ length (drop (line_start t p) t) = omega (arith, length-drop (line_start t p) t, line_fits) in
        sym (ap length (sym (cut_line t p refl refl) ∙ the_line refl refl))
        ∙ length-take-le (line_digits (edition_of t)) (drop (line_start t p) t) l

    pub its_place : line_start t p ≡ line_place t p
    unfolding line_place
    its_place = rw (← e)

-- texts that are read alike have the same edition, where they have a line
pub same_edition : (s t : List ℕ) (p : ℕ) → parse s ≡ parse t → 0 ≡ line_refusal_of (parse t) p → edition_of s ≡ edition_of t
same_edition s t p q z = by_answer (parse t) refl z where
  by_answer : (a : Parsed) → parse t ≡ a → 0 ≡ line_refusal_of a p → edition_of s ≡ edition_of t
  by_answer (accepted h cards) e z = sym (its_edition s h cards (q ∙ e)) ∙ its_edition t h cards e
  by_answer (refused k) e z = absurd (omega (arith, z, refusal_above t k e))

-- the array of an accepted ticket: its cards stand at the front
module _ (h : Header) (cards rest card : List ℕ) (f : Fits h cards) (a : card ≡ cards ++ rest) where
  pub front_card : (i : ℕ) → i < h.frames → card_of card i ≡ card_of cards i
  front_card i l = rw a (get_or-append cards rest 0 i (rw f.frames l))

  pub tally_asks : (h.frames ≤ length card) × (h.frames ≤ max_frames) × ((i : ℕ) → i < h.frames → card_of card i < max_cards)
  tally_asks = (
    rw a (omega (arith, length-append cards rest, f.frames)),
    f.few,
    λ i l. rw (front_card i l) (omega (arith, f.each_card i (rw f.frames l), f.card_range.1)),
  )

  pub tally_gives : counts_up_to card h.frames ≡ counts_up_to cards (length cards)
  tally_gives = rw (a, ← f.frames) (counts_front max_cards cards rest)

-- what a call goes on with, and the counts
module _ (t memory after : List ℕ) (a : Result Header ℕ) (e : a ≡ answer_in (parse t)) (m : after ≡ read_into t memory) (l : length memory ≡ max_frames) where
  front : (h : Header) (cards : List ℕ) → parse t ≡ accepted h cards → take h.frames after ≡ cards
  front h cards p =
      ap (take h.frames) (m ∙ into_accepted t memory h cards p)
      ∙ take_at cards (drop h.frames memory) h.frames (as_many t h cards p)

  pub reads : ReadAs t a after
  reads =
      record {
        long = ap length m ∙ into_long t memory (omega arith) ∙ l;
        refusal = was_refused t a e;
        list = λ h q. let p = was_accepted t a e h q in p.1 ∙ ap (λ (cards : List ℕ). accepted h cards) (sym (front h p.0 p.1));
        fits = λ h q. let p = was_accepted t a e h q in rw (front h p.0 p.1) (fits t h p.0 p.1);
      }

module _ (t memory : List ℕ) (a : Result Header ℕ) (r : ReadAs t a memory) where
  pub counts_refused : (k : ℕ) → a ≡ Err k → replicate max_cards 0 ≡ counts_of (parse t)
  unfolding zeros
  counts_refused k q = rw (r.refusal k q)

  module _ (h : Header) (q : a ≡ Ok h) where
    parts : memory ≡ take h.frames memory ++ drop h.frames memory
    parts = sym (take-append-drop h.frames memory)

    pub counts_asked : (h.frames ≤ length memory) × (h.frames ≤ max_frames) × ((i : ℕ) → i < h.frames → card_of memory i < max_cards)
    counts_asked = tally_asks h (take h.frames memory) (drop h.frames memory) memory (r.fits h q) parts

    pub counts_given : counts_up_to memory h.frames ≡ counts_of (parse t)
    counts_given =
        tally_gives h (take h.frames memory) (drop h.frames memory) memory (r.fits h q) parts ∙ sym (ap counts_of (r.list h q))

-- the answer in numbers
same_numbers : (p : Parsed) → numbers_of (answer_in p) ≡ numbers_in p
same_numbers (accepted h cards) = refl
same_numbers (refused k) = refl

-- the clauses of `read`
pub contract :
    (t memory after : List ℕ) (a : Result Header ℕ) → a ≡ answer_in (parse t) → after ≡ read_into t memory → length memory ≡ max_frames
    → (a ≡ answer_in (parse t)) × ((numbers_of a ≡ numbers_in (parse t)) × ((after ≡ read_into t memory) × ReadAs t a after))
contract t memory after a e m l = (e, (ap numbers_of e ∙ same_numbers (parse t), (m, reads t memory after a e m l)))

-- the clauses of `parse`
module _ (t : List ℕ) (a : Result Header ℕ) (e : a ≡ answer_in (parse t)) where
  pub parsed_refused : (k : ℕ) → a ≡ Err k → (Err k ≡ ticket_of (parse t)) × (numbers_of (Err k) ≡ numbers_in (parse t))
  parsed_refused k q = let p = was_refused t a e k q in (rw p, rw p)

  pub parsed_accepted :
      (h : Header) (card : List ℕ) → a ≡ Ok h → card ≡ read_into t (replicate max_frames 0)
      → (Ok (record { header = h; card = card }) ≡ ticket_of (parse t)) × (numbers_of (Ok h) ≡ numbers_in (parse t))
  unfolding zeros
  parsed_accepted h card q m =
      let p = was_accepted t a e h q in
      let card_is = m ∙ into_zeros t h p.0 p.1 in
      (rw (p.1, ← card_is), rw p.1)

-- a frame's second
module _ (t : List ℕ) (h : Header) (a : answer_in (parse t) ≡ Ok h) where
  found : (cards : List ℕ) × (parse t ≡ accepted h cards)
  found = answer_accepted (parse t) h a

  abbrev cards : List ℕ
  cards = found.0

  frames : length cards ≡ h.frames
  frames = as_many t h cards found.1

  -- its line, in the slice that follows the header
  pub header_fits : header_bytes ≤ length t
  header_fits = omega (arith, text_length t h cards found.1)

  module _ (p : ℕ) where
    pub second_line :
        p < h.frames
        → is_line (take (length t - header_bytes) (drop header_bytes t)) (line_bytes h.edition * p) (line_digits h.edition) ≡ true
    second_line l = rw from_place (line_true _ _ _ (its_line t h cards found.1 p (rw frames l)))

    pub its_second :
        {x : ℕ} → p < h.frames → x ≡ second_at h.edition (take (length t - header_bytes) (drop header_bytes t)) p → x ≡ second_of (seconds_of t) p
    its_second l e = rw from_place at e ∙ sym (second_at_is t h cards found.1 p (rw frames l))

    pub past_seconds : h.frames ≤ p → 0 ≡ second_of (seconds_of t) p
    past_seconds l = sym (second_past t h cards found.1 p (rw frames l))

pub refused_second : (t : List ℕ) (k p : ℕ) → answer_in (parse t) ≡ Err k → 0 ≡ second_of (seconds_of t) p
unfolding seconds_of
refused_second t k p a = rw (answer_refused (parse t) k a)
