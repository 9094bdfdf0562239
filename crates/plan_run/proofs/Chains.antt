-- The chains of a plan: frames linked from the last to the first, and the reads of a cycle along its chain.
-- Assumes nothing.
use Prim.Native.Nat.{ℕ, zero, suc, ◌+◌, ◌-◌, ◌≤◌, ◌<◌, min}
use mathlib.Core.Path.{◌≡◌, refl, sym, ◌∙◌}
use mathlib.Core.List.{List, append-nil}
use native.Mathlib.Omega.{arith}
use native.Mathlib.Decide.{ℕ_discrete}
use native.Mathlib.Numerals.{add-one}
use lib.ListN.{length, get_or, set, replicate, length-replicate, length-set, get_or-replicate}
use lib.Seq.{get_or-set_same, get_or-set_other}
use borrow.Author.Tests.{ne_eqb}
use Rattle.schedule.specs.Schedule.{cycle_of, cycles_in}
use Rattle.schedule.specs.Dock.{read_frame}
use Rattle.schedule.specs.Drive.{reads_of}
use Rattle.counting.proofs.Lists.{le_largest}
use Rattle.header.specs.Limits.{max_frames}
use Rattle.run_progress.specs.declared.Progress.{Progress}
use Rattle.run_progress.specs.Progress.{Tracked}
use Rattle.plan_run.specs.Cycles.{ReadsMade}
use Rattle.plan_run.specs.Chain.{heads, nowhere, Small, Unlinked, From, Chains}
use Rattle.plan_run.proofs.Cycles.{reads_none, reads_next}

pub small_plan : (cycles : List ℕ) {last : ℕ} → length cycles ≤ max_frames → last ≡ cycles_in cycles → last ≤ max_frames → Small cycles
small_plan cycles few e low = record { few = few; low = λ i l. omega (arith, le_largest cycles i) }

-- the tables before the first link
pub unlinked : Unlinked (replicate heads nowhere) (replicate max_frames 0)
unlinked =
    record {
      first_long = length-replicate {A = ℕ} heads nowhere;
      after_long = length-replicate {A = ℕ} max_frames 0;
      empty = λ t l. get_or-replicate heads t nowhere 0 l;
    }

pub link_first : {cycles first after : List ℕ} → Small cycles → Unlinked first after → Chains cycles (length cycles) first after
link_first {cycles} {first} s u =
    record {
      inside = omega arith;
      first_long = u.first_long;
      after_long = u.after_long;
      firsts = λ t l. record { none_before = λ j k g h. absurd (omega arith); met = λ n. absurd (n (u.empty t l)) };
      nexts = λ j k g. absurd (omega arith);
    }

-- one frame more before those looked at, of the cycle or of another
from_here : {cycles : List ℕ} {t i : ℕ} → i < length cycles → cycle_of cycles i ≡ t → From cycles t i i
from_here l e = record { none_before = λ j k g. absurd (omega arith); met = λ n. (omega arith, l, e) }

from_earlier : {cycles : List ℕ} {t i x : ℕ} → (cycle_of cycles i ≡ t → ⊥) → From cycles t (suc i) x → From cycles t i x
from_earlier {cycles} {t} {i} {x} n f =
    record {
      none_before = λ j k g h e. elim (ℕ_discrete j i) [ yes q ↦ n (rw q at e) | no q ↦ f.none_before j (omega arith) g h e ];
      met = λ m. (let r = f.met m in (omega (arith, r.0), r.1, r.2));
    }

-- frame i is linked
module _ {cycles first after : List ℕ} {i : ℕ} (s : Small cycles) (v : Chains cycles (i + 1) first after) (l : i < length cycles) where
  pub link_place : i < length after
  link_place = omega (arith, s.few, v.after_long)

  module _ {c : ℕ} (c-is : c ≡ cycle_of cycles i) where
    pub link_head : c < heads
    link_head = omega (arith, s.low i l)

    firsts_next : (t : ℕ) → t < heads → From cycles t i (get_or (set first c i) t 0)
    firsts_next t h =
        elim (ℕ_discrete t c) [
          | yes e ↦ rw (e, get_or-set_same first c i 0 (omega (arith, link_head, v.first_long))) (from_here l (sym c-is))
          | no e ↦ rw (get_or-set_other first c t i 0 e) (from_earlier (λ q. e (omega arith)) (rw add-one at (v.firsts t h)))
        ]

    nexts_next :
        (j : ℕ) → i ≤ j → j < length cycles → From cycles (cycle_of cycles j) (suc j) (get_or (set after i (get_or first c 0)) j 0)
    nexts_next j k g =
        elim (ℕ_discrete j i) [
          | yes e ↦ rw (e, get_or-set_same after i (get_or first c 0) 0 link_place, ← c-is) (rw add-one at (v.firsts c link_head))
          | no e ↦ rw (get_or-set_other after i j (get_or first c 0) 0 e) (v.nexts j (omega arith) g)
        ]

    pub link_next : Chains cycles i (set first c i) (set after i (get_or first c 0))
    link_next =
        record {
          inside = omega arith;
          first_long = length-set first c i ∙ v.first_long;
          after_long = length-set after i (get_or first c 0) ∙ v.after_long;
          firsts = firsts_next;
          nexts = nexts_next;
        }

-- frames of other cycles add no reads
reads_same :
    (cycles : List ℕ) (c a b : ℕ) → a ≤ b → ((j : ℕ) → a ≤ j → j < b → cycle_of cycles j ≡ c → ⊥)
    → reads_of cycles c b ≡ reads_of cycles c a
reads_same cycles c a zero l h = let e : a ≡ 0 = omega arith in rw e
reads_same cycles c a (suc b) l h =
    elim (ℕ_discrete a (suc b)) [
      | yes e ↦ rw e
      | no e ↦
          rw (ne_eqb (cycle_of cycles b) c (h b (omega arith) (omega arith)), append-nil)
          (reads_same cycles c a b (omega arith) (λ j k g. h j k (omega arith)))
    ]

reads_over :
    {cycles : List ℕ} {c a b : ℕ} {p q : Progress} {before memory : List ℕ}
    → a ≤ b → ((j : ℕ) → a ≤ j → j < b → cycle_of cycles j ≡ c → ⊥)
    → ReadsMade cycles c a p before q memory → ReadsMade cycles c b p before q memory
reads_over {cycles} {c} {a} {b} l h v = record { follows = λ m cards u. rw (reads_same cycles c a b l h) (v.follows m cards u) }

-- the reads of cycle c before position x, which is the next one of the chain
pub record Turn (cycles : List ℕ) (c x : ℕ) (p : Progress) (before : List ℕ) (q : Progress) (memory : List ℕ) : Type 0 where
  pub made : ReadsMade cycles c (min x (length cycles)) p before q memory
  pub met : (x ≡ nowhere → ⊥) → (x < length cycles) × (cycle_of cycles x ≡ c)

turn_to :
    {cycles : List ℕ} {c i x : ℕ} {p q : Progress} {before memory : List ℕ} → Small cycles → i ≤ length cycles → From cycles c i x
    → ReadsMade cycles c i p before q memory → Turn cycles c x p before q memory
turn_to {cycles} {c} {i} {x} s l f v =
    let up : i ≤ min x (length cycles) =
    elim (ℕ_discrete x nowhere) [ yes e ↦ omega (arith, s.few) | no e ↦ omega (arith, (f.met e).0) ] in
    record {
      made = reads_over up (λ j k g. f.none_before j k (omega arith) (omega arith)) v;
      met = λ n. (let r = f.met n in (r.1, r.2));
    }

module _
    {cycles first after : List ℕ} {c : ℕ} {p : Progress} {before : List ℕ} (s : Small cycles) (ch : Chains cycles 0 first after)
    (low : c ≤ max_frames) where
  pub turn_first : Turn cycles c (get_or first c 0) p before p before
  turn_first = turn_to s (omega arith) (ch.firsts c (omega arith)) reads_none

  module _ {x : ℕ} {q : Progress} {memory : List ℕ} (v : Turn cycles c x p before q memory) where
    module _ (n : x ≡ nowhere → ⊥) where
      pub turn_place : x < length after
      turn_place = omega (arith, (v.met n).0, s.few, ch.after_long)

      onward : From cycles c (suc x) (get_or after x 0)
      onward = rw (v.met n).1 at (ch.nexts x (omega arith) (v.met n).0)

      pub turn_less : length cycles - get_or after x 0 < length cycles - x
      turn_less =
          elim (ℕ_discrete (get_or after x 0) nowhere) [
            | yes e ↦ omega (arith, s.few, (v.met n).0)
            | no e ↦ omega (arith, (onward.met e).0, (v.met n).0)
          ]

      pub turn_next :
          {r : Progress} {later : List ℕ} → Tracked q (read_frame x) memory r later → Turn cycles c (get_or after x 0) p before r later
      turn_next {r} {later} w =
          let here : min x (length cycles) ≡ x = omega (arith, (v.met n).0) in
          let read : ReadsMade cycles c (x + 1) p before r later = reads_next (rw here at v.made) (omega arith) (v.met n).1 refl w in
          turn_to s (omega (arith, (v.met n).0)) onward (rw (add-one x) at read)

    pub turn_last : x ≡ nowhere → ReadsMade cycles c (length cycles) p before q memory
    turn_last e =
        let all : min x (length cycles) ≡ length cycles = omega (arith, s.few) in
        rw all at v.made
