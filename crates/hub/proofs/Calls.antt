-- What one call of `gather` did, from what its parts found: the answer, the buffer, and the promises of request 2026-06.
-- Assumes nothing.
use Prim.Native.Nat.{ℕ}
use mathlib.Core.Path.{◌≡◌, refl, sym, ap, ◌∙◌}
use mathlib.Core.List.{List}
use native.Mathlib.Omega.{arith}
use lib.ListN.{length, take, drop}
use lib.Seq.{take_at, get_or-take}
use borrow.Author.Tests.{lt-leb, le-ltb}
use Rattle.counting.specs.Count.{largest, written}
use Rattle.counting.specs.Frames.{card_of}
use Rattle.header.specs.Limits.{max_frames}
use Rattle.hub.specs.Fullest.{Gathering}
use Rattle.hub.specs.Gather.{hub_cards, Outcome, gathered, turned_down, gather_of, answer_of, leaves, buffer_after, Answered}
use Rattle.hub.specs.Grounds.{Fits, none}
use Rattle.hub.specs.Numbers.{numbers_of}
use Rattle.std.specs.Prelude.{Result, Ok, Err}
use Rattle.hub.proofs.Even.{inside_hub}
use Rattle.hub.proofs.Fullest as fullest
use Rattle.hub.proofs.Refusals.{as_many, low_cameras, known_is, says_only, refused_is, no_ground}

module _ (chosen cameras before : List ℕ) where
  abbrev outcome : Outcome
  outcome = gather_of chosen cameras (length before)

  -- a refusal leaves the buffer
  kept : (o : Outcome) (k : ℕ) → Err k ≡ answer_of o → before ≡ leaves o before
  unfolding answer_of leaves
  kept (gathered cards) k e = let z : ◌≡◌ {A = ℕ} 0 1 = cc in absurd (omega arith)
  kept (turned_down j) k e = refl

  pub call_refused : (k : ℕ) → k ≡ (numbers_of (answer_of outcome)).refusal → (k ≡ 0 → ⊥) → Answered chosen cameras before before (Err k)
  call_refused k e n =
      let answer = refused_is chosen cameras (length before) k e n in
      record { answer = answer; buffer = kept outcome k answer }

  -- with no ground the cards are given
  module _ (f : Fits chosen cameras (length before)) where
    answer_is : Ok (length cameras) ≡ answer_of outcome
    answer_is = says_only chosen cameras (length before) (Ok (length cameras)) (none f)

    buffer_is : buffer_after chosen cameras before ≡ written (hub_cards chosen cameras) before
    unfolding gather_of leaves
    buffer_is =
        let low = low_cameras chosen cameras f.known.count.0 f.seen in
        rw (
          known_is chosen f.known,
          le-ltb max_frames (length cameras) f.few,
          lt-leb (length chosen) (largest cameras) low,
          le-ltb (length before) (length cameras) f.room,
        )

    pub call_gathered :
        (after : List ℕ) → after ≡ written (hub_cards chosen cameras) before → Answered chosen cameras before after (Ok (length cameras))
    call_gathered after e = record { answer = answer_is; buffer = e ∙ sym buffer_is }

  -- the promises about a call
  module _ (after : List ℕ) (r : Result ℕ ℕ) (a : Answered chosen cameras before after r) where
    ground_free : (numbers_of r).refusal ≡ 0 → Fits chosen cameras (length before)
    ground_free z = no_ground chosen cameras (length before) (sym z ∙ ap (λ (x : Result ℕ ℕ). (numbers_of x).refusal) a.answer)

    frames_are : (numbers_of r).refusal ≡ 0 → (numbers_of r).frames ≡ length (hub_cards chosen cameras)
    frames_are z =
        ap (λ (x : Result ℕ ℕ). (numbers_of x).frames) (a.answer ∙ sym (answer_is (ground_free z))) ∙ sym (as_many chosen cameras)

    front_is : (numbers_of r).refusal ≡ 0 → take (numbers_of r).frames after ≡ hub_cards chosen cameras
    front_is z =
        rw (a.buffer, buffer_is (ground_free z))
        (take_at (hub_cards chosen cameras) (drop (length (hub_cards chosen cameras)) before) (numbers_of r).frames (sym (frames_are z)))

    pub gathering : Gathering chosen (numbers_of r).refusal (numbers_of r).frames after
    gathering =
        record {
          inside_hub = λ z i l.
              let f = ground_free z in
              let there : card_of (take (numbers_of r).frames after) i ≡ card_of after i = get_or-take (numbers_of r).frames after i 0 l in
              let its = rw (front_is z) at there in
              rw (sym its) (inside_hub chosen cameras f.known f.seen i (rw (frames_are z) at l));
          takes_fullest = λ z.
              let f = ground_free z in
              rw (front_is z) (fullest.takes_fullest chosen cameras f.known f.seen);
        }

    -- the whole contract of `gather`
    pub contract :
        (r ≡ answer_of outcome)
        × ((after ≡ buffer_after chosen cameras before)
        × ((numbers_of r ≡ numbers_of (answer_of outcome)) × Gathering chosen (numbers_of r).refusal (numbers_of r).frames after))
    contract = (a.answer, (a.buffer, (ap numbers_of a.answer, gathering)))
