-- The sets of cards that are seen in each cycle, frame by frame.
-- Assumes nothing.
use Prim.Native.Nat.{ℕ, suc, ◌+◌, ◌^◌, ◌≤◌, ◌<◌}
use mathlib.Core.Path.{◌≡◌, sym, ap, ◌∙◌}
use mathlib.Core.Logic.{◌≢◌}
use mathlib.Core.Bool.{Bool, true, false, ◌&&◌, false≢true}
use mathlib.Core.List.{List}
use native.Mathlib.Omega.{arith}
use native.Mathlib.Numerals.{add-one}
use native.Mathlib.Decide.{ℕ_discrete}
use lib.Dec.{eqb}
use lib.ListN.{length, get_or, set, replicate, length-replicate, length-set}
use lib.Seq.{get_or-set_same, get_or-set_other}
use borrow.Author.Tests.{eq-eqb, ne_eqb, eqb-true, lt-ltb, le-ltb, ltb-false}
use Rattle.counting.specs.Count.{bit, how_many}
use Rattle.counting.specs.Frames.{card_of}
use Rattle.counting.proofs.Bits.{bit_and_off, or_neither}
use Rattle.counting.proofs.Lists.{get_or_zeros}
use Rattle.schedule.specs.Schedule.{cycle_of}
use Rattle.schedule.specs.Verdict.{shares}
use Rattle.header.specs.Limits.{max_frames}
use Rattle.plan_faults.specs.Faults.{Checking, clear_of}
use Rattle.plan_faults.specs.Searches.{ClearTo, member_of, Sets, LowCycles}
use Rattle.plan_faults.proofs.Sets.{none_in_empty, put_in, others_stay}
use Rattle.plan_faults.proofs.ClearFrames.{clear_next, clear_ends, fault_by_cycle, fault_by_card, no_card_fault}

-- frame j has card k and cycle x
abbrev at : List ℕ → List ℕ → ℕ → ℕ → ℕ → Bool
at cards cycles k x j = eqb (card_of cards j) k && eqb (cycle_of cycles j) x

pub sets_first : (cards cycles : List ℕ) → Sets cards cycles (replicate (max_frames + 1) 0) 0
sets_first cards cycles =
    record {
      long = length-replicate {A = ℕ} (max_frames + 1) 0;
      members = λ x k l. ap (λ s. member_of s k) (get_or_zeros (max_frames + 1) x) ∙ none_in_empty k;
    }

-- the next frame, with cycle c
module _ {cards cycles seen : List ℕ} {i : ℕ} (v : Sets cards cycles seen i) {c : ℕ} (c-is : c ≡ cycle_of cycles i) (low : c ≤ max_frames) where
  abbrev card : ℕ
  card = card_of cards i

  pub seen_place : c < length seen
  seen_place = omega (arith, v.long)

  counted : member_of (get_or seen c 0) card ≡ how_many i (at cards cycles card (cycle_of cycles i))
  counted = v.members c card low ∙ ap (λ x. how_many i (at cards cycles card x)) c-is

  -- its card is in the set just where it shares the cycle
  pub member_shares : eqb (member_of (get_or seen c 0) card) 1 ≡ true → shares cards cycles i ≡ true
  member_shares e =
      lt-ltb 0 (how_many i (at cards cycles card (cycle_of cycles i))) (omega (arith, eqb-true (member_of (get_or seen c 0) card) 1 e, counted))

  pub shares_member : shares cards cycles i ≡ false → member_of (get_or seen c 0) card ≡ 0
  shares_member s = omega (arith, counted, ltb-false 0 (how_many i (at cards cycles card (cycle_of cycles i))) s)

  pub no_member_alone : member_of (get_or seen c 0) card ≡ 0 → shares cards cycles i ≡ false
  no_member_alone none = le-ltb 0 (how_many i (at cards cycles card (cycle_of cycles i))) (omega (arith, none, counted))

  -- it is put in
  module _ (none : member_of (get_or seen c 0) card ≡ 0) where
    members_next : (x k : ℕ) → x ≤ max_frames
        → member_of (get_or (set seen c (get_or seen c 0 + 2 ^ card)) x 0) k ≡ how_many (suc i) (at cards cycles k x)
    members_next x k h =
        elim (ℕ_discrete x c) [
          | yes e ↦
              (let here : get_or (set seen c (get_or seen c 0 + 2 ^ card)) x 0 ≡ get_or seen c 0 + 2 ^ card =
              rw e (get_or-set_same seen c (get_or seen c 0 + 2 ^ card) 0 seen_place) in
              let same : eqb (cycle_of cycles i) x ≡ true = eq-eqb (cycle_of cycles i) x (sym c-is ∙ sym e) in
              let before = v.members x k h in
              let set_is = ap (λ y. member_of (get_or seen y 0) k) e in
              elim (ℕ_discrete k card) [
                | yes q ↦
                    (let one : bit (at cards cycles k x i) ≡ 1 = rw (eq-eqb card k (sym q), same) in
                    ap (λ s. member_of s k) here
                    ∙ omega (
                      arith,
                      ap (λ y. member_of (get_or seen c 0 + 2 ^ card) y) q,
                      put_in (get_or seen c 0) card none,
                      before,
                      set_is,
                      ap (λ y. member_of (get_or seen c 0) y) q,
                      none,
                      one,
                    ))
                | no q ↦
                    (let other : bit (at cards cycles k x i) ≡ 0 = rw (ne_eqb card k (λ z. q (sym z))) in
                    ap (λ s. member_of s k) here ∙ omega (arith, others_stay (get_or seen c 0) card k none q, before, set_is, other))
              ])
          | no e ↦
              (let other : bit (at cards cycles k x i) ≡ 0 =
              bit_and_off (eqb card k) (eqb (cycle_of cycles i) x) (ne_eqb (cycle_of cycles i) x (λ z. e (sym z ∙ sym c-is))) in
              ap (λ s. member_of s k) (get_or-set_other seen c x (get_or seen c 0 + 2 ^ card) 0 e) ∙ omega (arith, v.members x k h, other))
        ]

    pub sets_next : {s : ℕ} → s ≡ get_or seen c 0 + 2 ^ card → Sets cards cycles (set seen c s) (i + 1)
    sets_next {s} s-is =
        rw s-is
        (record {
          long = length-set seen c (get_or seen c 0 + 2 ^ card) ∙ v.long;
          members = λ x k h. rw (add-one i) (members_next x k h);
        })

-- the frames before i, of the first n, are clear and in the sets
pub record Seen (cards cycles seen : List ℕ) (n i : ℕ) : Type 0 where
  pub inside : i ≤ n
  pub clear : ClearTo cards cycles i
  pub sets : Sets cards cycles seen i

-- a clear frame is not in its set yet
pub clear_not_member :
    {cards cycles seen : List ℕ} {n i : ℕ} → ClearTo cards cycles n → Sets cards cycles seen i → i < n → {c : ℕ} → c ≡ cycle_of cycles i → c ≤ max_frames
    → member_of (get_or seen c 0) (card_of cards i) ≡ 0
clear_not_member {cards} {cycles} {i = i} v w l c-is low =
    shares_member w c-is low (or_neither (eqb (cycle_of cycles i) 0) (shares cards cycles i) (v.each i l))

module _ {cards cycles seen : List ℕ} {n i : ℕ} (v : Seen cards cycles seen n i) (l : i < n) (b : n ≤ length cards) where
  pub no_cycle_ends : cycle_of cycles i ≡ 0 → i ≡ clear_of cards cycles n
  no_cycle_ends e = clear_ends v.clear l (fault_by_cycle cards cycles i e)

  module _ {c : ℕ} (c-is : c ≡ cycle_of cycles i) (low : c ≤ max_frames) (k : cycle_of cycles i ≢ 0) where
    pub member_ends : eqb (member_of (get_or seen c 0) (card_of cards i)) 1 ≡ true → i ≡ clear_of cards cycles n
    member_ends e = clear_ends v.clear l (fault_by_card cards cycles i k (member_shares v.sets c-is low e))

    pub seen_next : member_of (get_or seen c 0) (card_of cards i) ≡ 0 → {s : ℕ} → s ≡ get_or seen c 0 + 2 ^ card_of cards i
        → Seen cards cycles (set seen c s) n (i + 1)
    seen_next none s-is =
        record {
          inside = omega arith;
          clear = clear_next v.clear (omega arith) (no_card_fault cards cycles i k (no_member_alone v.sets c-is low none));
          sets = sets_next v.sets c-is low none s-is;
        }

-- the cycle of one of the first n frames has its place
pub cycle_low :
    {cards cycles : List ℕ} {n i c : ℕ} → Checking cards cycles → LowCycles cycles → n ≤ length cards → i < n → c ≡ cycle_of cycles i → c ≤ max_frames
cycle_low {i = i} f low b l c-is = omega (arith, low.each i (omega (arith, f.same_length)))

-- a member's digit is 0 or 1
pub no_member : (set k : ℕ) → eqb (member_of set k) 1 ≡ false → member_of set k ≡ 0
no_member set k e =
    elim (ℕ_discrete (member_of set k) 1) [
      | yes q ↦ absurd (false≢true (sym e ∙ eq-eqb (member_of set k) 1 q))
      | no q ↦ omega arith
    ]
