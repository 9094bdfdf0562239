-- A ticket is settled by its front: bytes past the longest ticket and one more change no answer, and no second.
-- Assumes nothing.
use Prim.Native.Nat.{ℕ, zero, suc, ◌+◌, ◌*◌, ◌-◌, ◌≤◌, ◌<◌}
use mathlib.Core.Path.{◌≡◌, refl, subst}
use mathlib.Core.List.{List}
use native.Mathlib.Omega.{arith}
use native.Mathlib.Nat.{mul-suc}
use lib.Dec.{eqb}
use lib.ListN.{length, take, drop}
use lib.Seq.{get_or-take}
use Rattle.counting.specs.Count.{tabulate}
use Rattle.counting.proofs.Bits.{by_cases}
use Rattle.counting.proofs.Lists.{tabulate_cong}
use Rattle.counting.proofs.Parts.{drop_take, below_take}
use Rattle.text.specs.Text.{digits, number, is_line}
use Rattle.header.specs.Editions.{edition2, card_digits, second_digits, line_digits, line_bytes}
use Rattle.header.specs.Heading.{header_digits, header_bytes, header_of, heading}
use Rattle.header.specs.Limits.{max_frames}
use Rattle.header.specs.declared.Header.{Header}
use Rattle.std.specs.Prelude.{Result, Ok, Err}
use Rattle.frame_lines.specs.Lines.{card_at, second_at, second_before, line_fault, lines_fault, part_fault}
use Rattle.frame_lines.proofs.Places.{place_inside}
use Rattle.frame_lines.proofs.OneLine.{eight_of, few_bytes}
use Rattle.ticket.specs.Ticket.{Parsed, accepted, refused, parse_part, parse, longest_ticket}
use Rattle.ticket.specs.Seconds.{how_many_seconds, seconds_in, seconds_of}
use Rattle.ticket.proofs.Accepted.{as_many, fits}
use Rattle.ticket.proofs.Memory.{few_frames}

module _ (n : ℕ) (s : List ℕ) (at : ℕ) where
  number_front : (k : ℕ) → at + k ≤ n → number (take n s) at k ≡ number s at k
  unfolding number
  number_front zero h = refl
  number_front (suc k) h = rw (number_front k (omega arith), get_or-take n s (at + k) 0 (omega arith))

  digits_front : (k : ℕ) → at + k ≤ n → digits (take n s) at k ≡ digits s at k
  unfolding digits
  digits_front zero h = refl
  digits_front (suc k) h = rw (digits_front k (omega arith), get_or-take n s (at + k) 0 (omega arith))

  line_front : (k : ℕ) → at + k < n → is_line (take n s) at k ≡ is_line s at k
  unfolding is_line
  line_front k h = rw (below_take n (at + k) s h, digits_front k (omega arith), get_or-take n s (at + k) 0 h)

-- the lines of an edition, of which the front has n bytes
module _ (edition n cards : ℕ) (s : List ℕ) where
  card_front : (i : ℕ) → line_bytes edition * i + line_digits edition < n → card_at edition (take n s) i ≡ card_at edition s i
  unfolding card_at
  card_front i h = number_front n s (line_bytes edition * i) card_digits (omega arith)

  second_front : (i : ℕ) → line_bytes edition * i + line_digits edition < n → second_at edition (take n s) i ≡ second_at edition s i
  unfolding second_at
  second_front i h = number_front n s (line_bytes edition * i + card_digits) (second_digits edition) (omega arith)

  before_front : (i : ℕ) → line_bytes edition * i + line_digits edition < n → second_before edition (take n s) i ≡ second_before edition s i
  unfolding second_before
  before_front zero h = refl
  before_front (suc i) h = second_front i (omega (arith, h, mul-suc (line_bytes edition) i))

  fault_front : (i : ℕ) → line_bytes edition * i + line_digits edition < n → line_fault edition (take n s) cards i ≡ line_fault edition s cards i
  unfolding line_fault
  fault_front i h =
      rw (line_front n s (line_bytes edition * i) (line_digits edition) h, card_front i h, second_front i h, before_front i h)

  faults_front : (k : ℕ) → line_bytes edition * k ≤ n → lines_fault edition (take n s) cards k ≡ lines_fault edition s cards k
  unfolding lines_fault
  faults_front zero h = refl
  faults_front (suc k) h =
      let m = mul-suc (line_bytes edition) k in
      rw (faults_front k (omega (arith, h, m)), fault_front k (omega (arith, h, m)))

  part_front : (k : ℕ) → line_bytes edition * k < n → part_fault edition (take n s) cards k ≡ part_fault edition s cards k
  unfolding part_fault
  part_front k h = rw (faults_front k (omega arith), below_take n (line_bytes edition * k) s h)

  -- what is read of the first k lines
  module _ (k : ℕ) (h : line_bytes edition * k ≤ n) where
    inside : (i : ℕ) → i < k → line_bytes edition * i + line_digits edition < n
    inside i l = omega (arith, h, place_inside (line_bytes edition) i k l)

    cards_front : tabulate k (card_at edition (take n s)) ≡ tabulate k (card_at edition s)
    cards_front = tabulate_cong k (card_at edition (take n s)) (card_at edition s) (λ i l. card_front i (inside i l))

    seconds_front : (m : ℕ) → m ≤ k → tabulate m (second_at edition (take n s)) ≡ tabulate m (second_at edition s)
    seconds_front m f = tabulate_cong m (second_at edition (take n s)) (second_at edition s) (λ i l. second_front i (inside i (omega arith)))

module _ (n : ℕ) (t : List ℕ) (long : longest_ticket < n) where
  -- the lines of the most frames are all within it
  room : (edition k : ℕ) → k ≤ max_frames → line_bytes edition * k < n - header_bytes
  room edition k l = omega (arith, long, eight_of refl, few_bytes edition k {d = line_digits edition} refl l)

  heading_front : heading (take n t) ≡ heading t
  unfolding heading header_of
  heading_front =
      rw (
        line_front n t 0 header_digits (omega arith),
        number_front n t 0 2 (omega arith),
        number_front n t 2 2 (omega arith),
        number_front n t 4 2 (omega arith),
        number_front n t 6 4 (omega arith),
        number_front n t 10 4 (omega arith),
      )

  after_header : drop header_bytes (take n t) ≡ take (n - header_bytes) (drop header_bytes t)
  after_header =
      let e : header_bytes + (n - header_bytes) ≡ n = omega arith in
      subst (λ (k : ℕ). drop header_bytes (take k t) ≡ take (n - header_bytes) (drop header_bytes t)) e (drop_take header_bytes (n - header_bytes) t)

  lines_front : (a : Result Header ℕ) → heading t ≡ a → parse_part a (drop header_bytes (take n t)) ≡ parse_part a (drop header_bytes t)
  lines_front (Err k) e = refl
  lines_front (Ok h) e =
      let r = room h.edition h.frames (few_frames t h e) in
      rw (
        after_header,
        part_front h.edition (n - header_bytes) h.cards (drop header_bytes t) h.frames r,
        cards_front h.edition (n - header_bytes) h.cards (drop header_bytes t) h.frames (omega (arith, r)),
      )

  pub settled : parse (take n t) ≡ parse t
  unfolding parse
  settled = rw heading_front (lines_front (heading t) refl)

  -- the seconds
  few : (h : Header) (cards : List ℕ) → parse t ≡ accepted h cards → how_many_seconds h.edition (length cards) ≤ max_frames
  unfolding how_many_seconds
  few h cards e =
      let l : length cards ≤ max_frames = rw (as_many t h cards e) (fits t h cards e).few in
      by_cases (eqb h.edition edition2) (λ y. rw y l) (λ y. rw y (omega arith))

  seconds_in_is : (a : Parsed) → parse t ≡ a → seconds_in a (drop header_bytes (take n t)) ≡ seconds_in a (drop header_bytes t)
  seconds_in_is (refused k) e = refl
  seconds_in_is (accepted h cards) e =
      let k = how_many_seconds h.edition (length cards) in
      let r = room h.edition k (few h cards e) in
      rw after_header (seconds_front h.edition (n - header_bytes) 0 (drop header_bytes t) k (omega (arith, r)) k (omega arith))

  pub seconds_settled : seconds_of (take n t) ≡ seconds_of t
  unfolding seconds_of
  seconds_settled = rw settled (seconds_in_is (parse t) refl)
