-- What the parts of `join` found, as the answer to two texts.
-- Assumes nothing.
use Prim.Native.Nat.{ℕ, ◌+◌, ◌*◌, ◌-◌, ◌≤◌, ◌<◌}
use mathlib.Core.Path.{◌≡◌, refl, sym, ap, ◌∙◌}
use mathlib.Core.Bool.{true, false}
use mathlib.Core.List.{List, map}
use native.Mathlib.Omega.{arith}
use native.Mathlib.Nat.{zero-add}
use native.Mathlib.Decide.{dec_lt}
use lib.ListN.{length, take, length-append, length-map}
use lib.Seq.{sets, sets-eq}
use borrow.Author.Tests.{lt-ltb, le-ltb}
use Rattle.counting.proofs.Bits.{by_cases}
use Rattle.counting.proofs.Parts.{from_place, sets_append, sets_length}
use Rattle.header.specs.Editions.{edition2, second_digits}
use Rattle.header.specs.Heading.{header_bytes}
use Rattle.header.specs.Limits.{max_frames}
use Rattle.header.specs.declared.Header.{Header}
use Rattle.ticket.specs.Grounds.{part}
use Rattle.ticket.specs.Print.{header_text, line_texts, ticket_text}
use Rattle.ticket.specs.Seconds.{seconds_of}
use Rattle.ticket.specs.Ticket.{accepted, refused, parse, answer_in}
use Rattle.ticket.proofs.Again.{lines_long}
use Rattle.ticket.proofs.Answers.{was_accepted}
use Rattle.merged_lines.specs.Merge.{Frame, frames, merge}
use Rattle.merged_lines.specs.Lines.{HasLines, lines_text, merged_text}
use Rattle.merged_lines.proofs.Merging.{merge_length}
use Rattle.join.specs.Join.{joined, turned_down, joined_header, joined_text, joinable, join_read, join_of, answer_of, buffer_after, Answered}
use Rattle.join.specs.Steps.{HasHeader, together, pair_refusal}
use Rattle.std.specs.Prelude.{Ok, Err}
use Rattle.join.proofs.HeaderText.{length_of_header}
use Rattle.join.proofs.Refusals.{not_joinable, too_many, no_room, no_refusal, passes, first_timed, second_timed}
use Rattle.join.proofs.Frames.{its_frames, frames_many, has_lines}

-- a joined ticket's bytes
pub text_bytes : (g : Header) (all : List Frame) → length (joined_text g all) ≡ 15 + 11 * length all
unfolding ticket_text second_digits
text_bytes g all =
    let cards = map (λ f. f.card) all in
    let seconds = map (λ f. f.second) all in
    let lines = line_texts edition2 cards seconds (length cards) in
    omega (
      arith,
      length-append (header_text (joined_header g (length all))) lines,
      length_of_header (joined_header g (length all)),
      lines_long edition2 cards seconds (length cards),
      length-map all (λ f. f.card),
    )

-- two tickets that are accepted
module _ (first second : List ℕ) (g h : Header) (a b : List ℕ) (e : parse first ≡ accepted g a) (f : parse second ≡ accepted h b) where
  abbrev A : List Frame
  A = frames a (seconds_of first)

  abbrev B : List Frame
  B = frames b (seconds_of second)

  join_is : join_of first second ≡ join_read g A h B
  unfolding join_of
  join_is = rw (e, f)

  join_18 : joinable g h ≡ false → join_of first second ≡ turned_down 18
  unfolding join_read
  join_18 n = join_is ∙ rw n

  module _ (can : joinable g h ≡ true) where
    counted : length A + length B ≡ together g h
    counted = omega (arith, frames_many first g a e (first_timed g h can), frames_many second h b f (second_timed g h can))

    join_19 : max_frames < together g h → join_of first second ≡ turned_down 19
    unfolding join_read
    join_19 l = join_is ∙ rw (can, counted, lt-ltb max_frames (together g h) l)

    join_text : together g h ≤ max_frames → join_of first second ≡ joined (joined_text g (merge A B))
    unfolding join_read
    join_text l = join_is ∙ rw (can, counted, le-ltb max_frames (together g h) l)

    bytes : length (joined_text g (merge A B)) ≡ 15 + 11 * together g h
    bytes = omega (arith, text_bytes g (merge A B), merge_length A B, counted)

  -- 18, 19 and 10 change nothing
  pub pair_refused :
      (k : ℕ) (before : List ℕ) → k ≡ pair_refusal g h (length before) → (k ≡ 0 → ⊥) → Answered (join_of first second) before before (Err k)
  unfolding answer_of buffer_after
  pair_refused k before r n =
      by_cases (joinable g h)
      (λ can.
      elim (dec_lt max_frames (together g h)) [
        | yes l ↦
            (let nineteen : k ≡ 19 = omega (arith, r, too_many g h (length before) (sym can) l) in
            rw (nineteen, join_19 can l) (record { answer = refl; buffer = refl }))
        | no l ↦
            elim (dec_lt (length before) (15 + 11 * together g h)) [
              | yes p ↦
                  (let ten : k ≡ 10 = omega (arith, r, no_room g h (length before) (sym can) (omega arith) p) in
                  let short = lt-ltb (length before) (length (joined_text g (merge A B))) (omega (arith, p, bytes can)) in
                  rw (ten, join_text can (omega arith)) (record { answer = rw short; buffer = rw short }))
              | no p ↦ absurd (n (omega (arith, r, no_refusal g h (length before) (sym can) (omega arith) (omega arith))))
            ]
      ])
      (λ not.
      let eighteen : k ≡ 18 = omega (arith, r, not_joinable g h (length before) (sym not)) in
      rw (eighteen, join_18 not) (record { answer = refl; buffer = refl }))

  module _ (before : List ℕ) (none : 0 ≡ pair_refusal g h (length before)) where
    abbrev n : ℕ
    n = together g h

    pub can : joinable g h ≡ true
    can = (passes g h (length before) none).0

    pub few : n ≤ max_frames
    few = (passes g h (length before) none).1

    pub room : 15 + 11 * n ≤ length before
    room = (passes g h (length before) none).2

    first_lines : HasLines (take (length first - header_bytes) (part first)) g.frames
    first_lines = rw (from_place header_bytes first) (has_lines first g a e (first_timed g h can))

    second_lines : HasLines (take (length second - header_bytes) (part second)) h.frames
    second_lines = rw (from_place header_bytes second) (has_lines second h b f (second_timed g h can))

    pub text_is : join_of first second ≡ joined (joined_text g (merge A B))
    text_is = join_text can few

    -- the header and the merged lines are the text of the joined ticket
    written_text :
        (after : List ℕ)
        → after
        ≡ sets (sets before 0 (header_text (joined_header g n))) 15
        (merged_text (take (length first - header_bytes) (part first)) g.frames (take (length second - header_bytes) (part second)) h.frames)
        → after ≡ sets before 0 (joined_text g (merge A B))
    unfolding ticket_text
    written_text after w =
        let all = merge A B in
        let many : length all ≡ n = merge_length A B ∙ counted can in
        w
        ∙ rw (
          from_place header_bytes first,
          from_place header_bytes second,
          ← its_frames first g a e (first_timed g h can),
          ← its_frames second h b f (second_timed g h can),
          sets_append before 0 (header_text (joined_header g n)) (lines_text all) 15 (omega (arith, length_of_header (joined_header g n))),
          many,
          length-map all (λ f. f.card),
          many,
        )

    pair_joined :
        (after : List ℕ)
        → after
        ≡ sets (sets before 0 (header_text (joined_header g n))) 15
        (merged_text (take (length first - header_bytes) (part first)) g.frames (take (length second - header_bytes) (part second)) h.frames)
        → Answered (join_of first second) before after (Ok (15 + 11 * n))
    unfolding answer_of buffer_after
    pair_joined after w =
        let text = joined_text g (merge A B) in
        let long = le-ltb (length before) (length text) (omega (arith, room, bytes can)) in
        rw (join_text can few)
        (record {
          answer = rw long (ap Ok (sym (bytes can)));
          buffer = rw long (written_text after w ∙ sets-eq text before 0 (omega (arith, room, bytes can)) ∙ rw zero-add);
        })

-- the same from what the reader answered for each text
module _ (first second : List ℕ) (g h : Header) (p : HasHeader first g) (q : HasHeader second h) where
  a : (cards : List ℕ) × (parse first ≡ accepted g cards)
  a = was_accepted first (answer_in (parse first)) refl g p

  b : (cards : List ℕ) × (parse second ≡ accepted h cards)
  b = was_accepted second (answer_in (parse second)) refl h q

  pub read_refused :
      (k : ℕ) (before : List ℕ) → k ≡ pair_refusal g h (length before) → (k ≡ 0 → ⊥) → Answered (join_of first second) before before (Err k)
  read_refused = pair_refused first second g h a.0 b.0 a.1 b.1

  module _ (before : List ℕ) (none : 0 ≡ pair_refusal g h (length before)) where
    pub read_few : together g h ≤ max_frames
    read_few = few first second g h a.0 b.0 a.1 b.1 before none

    pub read_room : 15 + 11 * together g h ≤ length before
    read_room = room first second g h a.0 b.0 a.1 b.1 before none

    pub read_place : (x : List ℕ) (k : Header) → x ≡ sets before 0 (header_text k) → 15 + 11 * together g h ≤ length x
    read_place x k e = omega (arith, read_room, sets_length before x 0 (header_text k) e)

    pub read_lines :
        HasLines (take (length first - header_bytes) (part first)) g.frames × HasLines (take (length second - header_bytes) (part second)) h.frames
    read_lines =
        (first_lines first second g h a.0 b.0 a.1 b.1 before none, second_lines first second g h a.0 b.0 a.1 b.1 before none)

    pub read_joined :
        (x after : List ℕ) → x ≡ sets before 0 (header_text (joined_header g (together g h)))
        → after
        ≡ sets x 15
        (merged_text (take (length first - header_bytes) (part first)) g.frames (take (length second - header_bytes) (part second)) h.frames)
        → Answered (join_of first second) before after (Ok (15 + 11 * together g h))
    read_joined x after e w = pair_joined first second g h a.0 b.0 a.1 b.1 before none after (rw e at w)

-- a text that is refused, the first before the second
pub first_refused : (first second before : List ℕ) (k : ℕ) → parse first ≡ refused k → Answered (join_of first second) before before (Err k)
unfolding join_of answer_of buffer_after
first_refused first second before k e = rw e (record { answer = refl; buffer = refl })

pub second_refused :
    (first second before : List ℕ) (g : Header) (k : ℕ) → HasHeader first g → parse second ≡ refused k
    → Answered (join_of first second) before before (Err k)
unfolding join_of answer_of buffer_after
second_refused first second before g k p e =
    rw ((was_accepted first (answer_in (parse first)) refl g p).1, e) (record { answer = refl; buffer = refl })
