-- Reading a text into lent memory: the answer, and what memory then holds.
-- Assumes nothing.
use Prim.Native.Nat.{ℕ, ◌-◌, ◌≤◌}
use mathlib.Core.Path.{◌≡◌, refl, sym, ap, ◌∙◌}
use mathlib.Core.List.{List, ◌++◌}
use native.Mathlib.Omega.{arith}
use lib.Dec.{eqb}
use lib.ListN.{length, take, drop, replicate, length-append, length-drop}
use borrow.Author.Tests.{eqb-true, ne_eqb}
use Rattle.counting.specs.Count.{tabulate}
use Rattle.counting.proofs.Bits.{by_cases}
use Rattle.counting.proofs.Lists.{length_tabulate}
use Rattle.counting.proofs.Parts.{from_place, drop_replicate}
use Rattle.header.specs.Heading.{header_bytes, heading}
use Rattle.header.specs.Limits.{max_frames}
use Rattle.header.specs.declared.Header.{Header}
use Rattle.std.specs.Prelude.{Result, Ok, Err}
use Rattle.frame_lines.specs.Lines.{card_at, part_fault, lines_passing, cards_read}
use Rattle.frame_lines.proofs.Faults.{all_read, passing_few}
use Rattle.ticket.specs.Ticket.{accepted, refused, parse_part, parse, answer_in, part_into, read_into}
use Rattle.ticket.proofs.Accepted.{as_many}
use Rattle.ticket.proofs.Reader.{header_passes, header_read}

module _ (t : List ℕ) where
  module _ (h : Header) (e : heading t ≡ Ok h) where
    pub long : header_bytes ≤ length t
    long = omega (arith, (header_passes t h e).line.inside)

    pub few_frames : h.frames ≤ max_frames
    few_frames = rw (header_read t h e) (header_passes t h e).frames

    -- what the frame lines, the slice from byte 15 on, are answered with
    module _ {k : ℕ} (q : k ≡ part_fault h.edition (take (length t - header_bytes) (drop header_bytes t)) h.cards h.frames) where
      fault_is : k ≡ part_fault h.edition (drop header_bytes t) h.cards h.frames
      fault_is = rw from_place at q

      pub part_refused : (k ≡ 0 → ⊥) → Err k ≡ answer_in (parse t)
      unfolding parse
      part_refused n = rw (e, ← fault_is, ne_eqb k 0 n)

      pub part_accepted : k ≡ 0 → Ok h ≡ answer_in (parse t)
      unfolding parse
      part_accepted z = rw (e, ← fault_is, z)

    -- what memory then holds
    pub part_into_is :
        (memory : List ℕ) {after : List ℕ}
        → after ≡ cards_read h.edition (take (length t - header_bytes) (drop header_bytes t)) h.cards h.frames memory
        → after ≡ read_into t memory
    unfolding read_into
    part_into_is memory {after} q = rw e (rw from_place at q)

  -- a refused header
  pub header_into : (k : ℕ) (memory : List ℕ) → heading t ≡ Err k → memory ≡ read_into t memory
  unfolding read_into
  header_into k memory e = rw e

-- an accepted text: its cards stand at the front
into_part :
    (x : Result Header ℕ) (s memory : List ℕ) (h : Header) (cards : List ℕ) → parse_part x s ≡ accepted h cards
    → part_into x s memory ≡ cards ++ drop h.frames memory
into_part (Err k) s memory h cards e = let z : ◌≡◌ {A = ℕ} 0 1 = cc in absurd (omega arith)
into_part (Ok g) s memory h cards e =
    by_cases (eqb (part_fault g.edition s g.cards g.frames) 0)
    (λ z.
    let q : accepted g (tabulate g.frames (card_at g.edition s)) ≡ accepted h cards = rw z at e in
    let g-is : g ≡ h = cc in
    let cards-are : tabulate g.frames (card_at g.edition s) ≡ cards = cc in
    all_read g.edition s g.cards g.frames memory (eqb-true _ _ z) ∙ rw (cards-are, g-is))
    (λ z.
    let q : refused (part_fault g.edition s g.cards g.frames) ≡ accepted h cards = rw z at e in
    let w : ◌≡◌ {A = ℕ} 0 1 = cc in
    absurd (omega arith))

-- memory stays as long as it is
long_part :
    (x : Result Header ℕ) (s memory : List ℕ) → ((h : Header) → x ≡ Ok h → h.frames ≤ length memory)
    → length (part_into x s memory) ≡ length memory
unfolding cards_read
long_part (Err k) s memory few = refl
long_part (Ok h) s memory few =
    let n = lines_passing h.edition s h.cards h.frames in
    omega (
      arith,
      length-append (tabulate n (card_at h.edition s)) (drop n memory),
      length_tabulate n (card_at h.edition s),
      length-drop n memory,
      passing_few h.edition s h.cards h.frames,
      few h refl,
    )

module _ (t memory : List ℕ) where
  pub into_accepted : (h : Header) (cards : List ℕ) → parse t ≡ accepted h cards → read_into t memory ≡ cards ++ drop h.frames memory
  unfolding parse read_into
  into_accepted h cards e = into_part (heading t) (drop header_bytes t) memory h cards e

  pub into_long : max_frames ≤ length memory → length (read_into t memory) ≡ length memory
  unfolding read_into
  into_long l = long_part (heading t) (drop header_bytes t) memory (λ h e. omega (arith, few_frames t h e))

-- memory that was all 0
pub into_zeros :
    (t : List ℕ) (h : Header) (cards : List ℕ) → parse t ≡ accepted h cards
    → read_into t (replicate max_frames 0) ≡ cards ++ replicate (max_frames - length cards) 0
into_zeros t h cards e =
    into_accepted t (replicate max_frames 0) h cards e
    ∙ ap (λ k. cards ++ drop k (replicate max_frames 0)) (sym (as_many t h cards e))
    ∙ ap (λ rest. cards ++ rest) (drop_replicate max_frames (length cards) 0)
