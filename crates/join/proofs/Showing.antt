-- Request 2026-04 about a call of `join`, from its answer and the buffer that it leaves.
-- Assumes nothing.
use Prim.Native.Nat.{ℕ, ◌+◌, ◌*◌}
use mathlib.Core.Path.{◌≡◌, refl, sym, ap, ◌∙◌}
use mathlib.Core.Bool.{true, false}
use mathlib.Core.List.{List, map}
use mathlib.Core.Logic.{⊎_elim}
use native.Mathlib.Omega.{arith}
use native.Mathlib.Decide.{ℕ_discrete}
use lib.Dec.{ltb}
use lib.ListN.{length, take, drop}
use lib.Seq.{take_at}
use borrow.Author.Tests.{le-ltb}
use Rattle.counting.proofs.Bits.{by_cases}
use Rattle.counting.specs.declared.Cycle.{Cycle}
use Rattle.header.specs.Limits.{mode_read}
use Rattle.header.specs.declared.Header.{Header}
use Rattle.mode_plans.specs.Plans.{plan_for}
use Rattle.mode_plans.proofs.Plans.{plan_read}
use Rattle.planner.specs.Plan.{plan_of}
use Rattle.std.specs.Prelude.{Ok, Err}
use Rattle.schedule.specs.Greedy.{Plan, lazy_prefetching}
use Rattle.schedule.proofs.Main as schedule
use Rattle.ticket.specs.Grounds.{TicketRefusal}
use Rattle.ticket.specs.Seconds.{seconds_of}
use Rattle.ticket.specs.Ticket.{accepted, parse}
use Rattle.ticket.proofs.Main as ticket
use Rattle.merged_lines.specs.Merge.{Frame, frames, merge, NotFalling}
use Rattle.merged_lines.proofs.Merging.{merge_length}
use Rattle.merged_lines.proofs.Order.{merge_not_falling}
use Rattle.merged_lines.proofs.Places.{first_stands, second_stands, first_before, second_before}
use Rattle.merged_lines.proofs.Made.{merge_joined, cards_joined}
use Rattle.join.specs.Join.{joined_header, joined_text, joinable, join_of, answer_of, buffer_after, Answered}
use Rattle.join.specs.Numbers.{numbers_of}
use Rattle.join.specs.Showing.{OneShowing, NoFewer, Showing}
use Rattle.join.specs.Steps.{HasHeader, pair_refusal}
use Rattle.std.specs.Prelude.{Result, Err}
use Rattle.join.proofs.Refusals.{first_timed, second_timed, first_reads, second_reads, same_cards, same_pool}
use Rattle.join.proofs.Frames.{frames_many}
use Rattle.join.proofs.Outcome.{text_bytes, pair_refused, can, few, room, text_is, first_refused, second_refused}
use Rattle.join.proofs.Whole.{frames_again, each, many, not_falling, cards_in, seconds_in_is, read_again}

-- two lists of frames whose seconds do not fall, merged
merged_showing : (a b : List Frame) → NotFalling a → NotFalling b → OneShowing a b (merge a b)
merged_showing a b fa fb =
    record {
      made_of_both = merge_joined a b;
      as_many = merge_length a b;
      sorted = merge_not_falling a b fa fb;
      first_stands = first_stands a b fa fb;
      second_stands = second_stands a b fa fb;
      first_before = first_before a b fa fb;
      second_before = second_before a b fa fb;
    }

-- the T that a read ticket's plan has
plan_T :
    (t : List ℕ) (h : Header) (cards : List ℕ) → parse t ≡ accepted h cards → h.mode ≡ mode_read → (places : ℕ) (T : Cycle)
    → plan_of (parse t) places ≡ Ok T → T.0 ≡ (lazy_prefetching h.pool cards).T
unfolding plan_of
plan_T t h cards e mode places T planned =
    let told : plan_of (accepted h cards) places ≡ Ok T = rw e at planned in
    by_cases (ltb places (length cards))
    (λ short. let z : Err 10 ≡ Ok T = rw short at told in let y : ◌≡◌ {A = ℕ} 0 1 = cc in absurd (omega arith))
    (λ long.
    let q : Ok (record { 0 = (plan_for h.mode h.pool cards).T }) ≡ Ok T = rw long at told in
    let r : (plan_for h.mode h.pool cards).T ≡ T.0 = cc in
    sym r ∙ ap (λ (p : Plan). p.T) (plan_read h.mode h.pool cards mode))

-- a call for two tickets that are accepted, which did not refuse
module _
    (first second before after : List ℕ) (r : Result ℕ ℕ) (call : Answered (join_of first second) before after r) (z : (numbers_of r).refusal ≡ 0)
    (g h : Header) (a b : List ℕ) (e : parse first ≡ accepted g a) (f : parse second ≡ accepted h b) where
  abbrev A : List Frame
  A = frames a (seconds_of first)

  abbrev B : List Frame
  B = frames b (seconds_of second)

  none : 0 ≡ pair_refusal g h (length before)
  none =
      elim (ℕ_discrete (pair_refusal g h (length before)) 0) [
        | yes p ↦ sym p
        | no p ↦
            (let other = (pair_refused first second g h a b e f (pair_refusal g h (length before)) before refl p).answer in
            let told : pair_refusal g h (length before) ≡ (numbers_of r).refusal = ap (λ (x : Result ℕ ℕ). (numbers_of x).refusal) (other ∙ sym call.answer) in
            absurd (p (told ∙ z)))
      ]

  its : joinable g h ≡ true
  its = can first second g h a b e f before none

  abbrev text : List ℕ
  text = joined_text g (merge A B)

  fits : ltb (length before) (length text) ≡ false
  fits =
      le-ltb (length before) (length text)
      (omega (
        arith,
        room first second g h a b e f before none,
        text_bytes g (merge A B),
        merge_length A B,
        frames_many first g a e (first_timed g h its),
        frames_many second h b f (second_timed g h its),
      ))

  bytes_are : (numbers_of r).bytes ≡ length text
  unfolding answer_of
  bytes_are = rw (call.answer, text_is first second g h a b e f before none, fits)

  holds_text : take (numbers_of r).bytes after ≡ text
  unfolding buffer_after
  holds_text =
      rw (call.buffer, text_is first second g h a b e f before none, fits, bytes_are)
      (take_at text (drop (length text) before) (length text) refl)

  again : (parse text ≡ accepted (joined_header g (length (merge A B))) (map (λ f. f.card) (merge A B)))
      × (seconds_of text ≡ map (λ f. f.second) (merge A B))
  again =
      let two = first_timed g h its in
      let two' = second_timed g h its in
      read_again g A B (ticket.accepted_fits first g a e).card_range (ticket.accepted_fits first g a e).pool
      (omega (
        arith,
        few first second g h a b e f before none,
        frames_many first g a e two,
        frames_many second h b f two',
      ))
      (cards_in first g a e two)
      (rw (same_cards g h its) (cards_in second h b f two'))
      (seconds_in_is first g a e two)
      (seconds_in_is second h b f two')
      (not_falling first g a e two)
      (not_falling second h b f two')

  pub joined_bytes : (numbers_of r).bytes ≡ 15 + 11 * (length a + length b)
  joined_bytes =
      omega (
        arith,
        bytes_are,
        text_bytes g (merge A B),
        merge_length A B,
        many first g a e (first_timed g h its),
        many second h b f (second_timed g h its),
      )

  pub joined_values :
      (parse (take (numbers_of r).bytes after) ≡ accepted (joined_header g (length (merge A B))) (map (λ f. f.card) (merge A B)))
      × (seconds_of (take (numbers_of r).bytes after) ≡ map (λ f. f.second) (merge A B))
  joined_values = (rw holds_text again.0, rw holds_text again.1)

  pub showing :
      (c : List ℕ)
      × (parse (take (numbers_of r).bytes after) ≡ accepted (joined_header g (length a + length b)) c)
      × OneShowing A B (frames c (seconds_of (take (numbers_of r).bytes after)))
  showing =
      let together : length (merge A B) ≡ length a + length b =
      omega (arith, merge_length A B, many first g a e (first_timed g h its), many second h b f (second_timed g h its)) in (
        map (λ f. f.card) (merge A B),
        rw (holds_text, ← together) again.0,
        rw (holds_text, again.1, frames_again (merge A B))
            (merged_showing A B (not_falling first g a e (first_timed g h its)) (not_falling second h b f (second_timed g h its))),
      )

  pub never_below : NoFewer (take (numbers_of r).bytes after) first × NoFewer (take (numbers_of r).bytes after) second
  never_below =
      let cards = map (λ f. f.card) (merge A B) in
      let halves =
      schedule.joined_read g.pool (ticket.accepted_fits first g a e).pool.0
      (cards_joined a (seconds_of first) b (seconds_of second) (each first g a e (first_timed g h its)) (each second h b f (second_timed g h its))) in
      let whole-T : (p : ℕ) (S : Cycle) → plan_of (parse (take (numbers_of r).bytes after)) p ≡ Ok S → S.0 ≡ (lazy_prefetching g.pool cards).T =
      λ p S s. plan_T text (joined_header g (length (merge A B))) cards again.0 refl p S (rw holds_text at s) in (
        λ p q S T s t. omega (arith, whole-T p S s, plan_T first g a e (first_reads g h its) q T t, halves.0),
        λ p q S T s t.
            let half : T.0 ≡ (lazy_prefetching g.pool b).T = rw (same_pool g h its) (plan_T second h b f (second_reads g h its) q T t) in
            omega (arith, whole-T p S s, half, halves.1),
      )

-- a ticket's own number is not 0
not_zero : (t : List ℕ) (k : ℕ) → TicketRefusal t k → k ≡ 0 → ⊥
not_zero t k = ⊎_elim (λ w z. omega (arith, w.0)) (λ w z. omega (arith, w.0))

-- every call
module _ (first second before after : List ℕ) (r : Result ℕ ℕ) (call : Answered (join_of first second) before after r) where
  abbrev Accepts : List ℕ → Type 0
  Accepts t = (h : Header) × (cards : List ℕ) × (parse t ≡ accepted h cards)

  told : (k : ℕ) → Answered (join_of first second) before before (Err k) → (numbers_of r).refusal ≡ k
  told k other = ap (λ (x : Result ℕ ℕ). (numbers_of x).refusal) (call.answer ∙ sym other.answer)

  accepts_first : (numbers_of r).refusal ≡ 0 → Accepts first
  accepts_first z =
      ⊎_elim (λ x. x)
      (λ x. absurd (not_zero first x.0 x.1 (sym (told x.0 (first_refused first second before x.0 x.2)) ∙ z)))
      (ticket.accepted_or_refused first)

  accepts_second : (numbers_of r).refusal ≡ 0 → Accepts second
  accepts_second z =
      let one = accepts_first z in
      let header : HasHeader first one.0 = rw one.2 refl in
      ⊎_elim (λ x. x)
      (λ x. absurd (not_zero second x.0 x.1 (sym (told x.0 (second_refused first second before one.0 x.0 header x.2)) ∙ z)))
      (ticket.accepted_or_refused second)

  pub call_shows : Showing first second (numbers_of r).refusal (numbers_of r).bytes after
  call_shows =
      record {
        one_showing = λ g h a b e f z. showing first second before after r call z g h a b e f;
        never_below = λ z.
            let one = accepts_first z in
            let two = accepts_second z in
            never_below first second before after r call z one.0 two.0 one.1 two.1 one.2 two.2;
      }

  -- the whole contract of `join`
  pub contract : (r ≡ answer_of (join_of first second) (length before))
      × ((after ≡ buffer_after (join_of first second) before)
      × ((numbers_of r ≡ numbers_of (answer_of (join_of first second) (length before)))
      × Showing first second (numbers_of r).refusal (numbers_of r).bytes after))
  contract = (call.answer, (call.buffer, (ap numbers_of call.answer, call_shows)))
