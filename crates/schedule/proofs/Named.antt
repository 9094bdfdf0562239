-- A verdict that names a position names the lowest at fault, and the first of its faults, in plain conditions.
-- Assumes nothing.
use Prim.Native.Nat.{ℕ, zero, suc, ◌+◌, ◌≤◌, ◌<◌}
use mathlib.Core.Path.{◌≡◌, refl, sym, ◌∙◌}
use mathlib.Core.Logic.{◌≢◌}
use mathlib.Core.Bool.{Bool, true, false, ◌&&◌}
use mathlib.Core.List.{List}
use native.Mathlib.Omega.{arith}
use native.Mathlib.Decide.{ℕ_discrete}
use lib.Dec.{eqb}
use lib.ListN.{length}
use borrow.Author.Tests.{eqb-true, ltb-true}
use Rattle.counting.specs.Count.{how_many}
use Rattle.counting.specs.Frames.{card_of}
use Rattle.schedule.specs.Schedule.{cycle_of}
use Rattle.schedule.specs.Verdict.{Fault, order, Verdict, valid, faulty, no_cycle, shared_card, overfull, shares, judge_from, Has, Named}
use Rattle.counting.proofs.Bits.{and_left, and_right}
use Rattle.counting.proofs.Sums.{some_passes}
use Rattle.schedule.proofs.Exact as exact

module _ (backlog : List ℕ → ℕ → ℕ) (m : ℕ) (cards cycles : List ℕ) where
  abbrev has : ℕ → Fault → Type 0
  has = Has backlog m cards cycles

  -- frame j has the card and the cycle of frame i
  abbrev same : ℕ → ℕ → Bool
  same i j = eqb (card_of cards j) (card_of cards i) && eqb (cycle_of cycles j) (cycle_of cycles i)

  shared_plain : (i : ℕ) → shares cards cycles i ≡ true → has i shared_card
  shared_plain i s =
      let r : (j : ℕ) × (j < i) × (same i j ≡ true) = some_passes i (same i) (ltb-true 0 (how_many i (same i)) s) in (
        r.0,
        r.1,
        eqb-true _ _ (and_left (eqb (card_of cards r.0) (card_of cards i)) (eqb (cycle_of cycles r.0) (cycle_of cycles i)) r.2),
        eqb-true _ _ (and_right (eqb (card_of cards r.0) (card_of cards i)) (eqb (cycle_of cycles r.0) (cycle_of cycles i)) r.2),
      )

  alone_plain : (i : ℕ) → shares cards cycles i ≡ false → has i shared_card → ⊥
  alone_plain i s h = exact.alone_apart backlog m cards cycles h.0 i h.1 s h.2 h.3

  faultless_plain : (i : ℕ) → exact.Faultless backlog m cards cycles i → (g : Fault) → has i g → ⊥
  faultless_plain i f no_cycle h = f.a_cycle h
  faultless_plain i f shared_card h = alone_plain i f.alone h
  faultless_plain i f overfull h = omega (arith, f.pooled)

  -- of k frames from i on, position j is the lowest at fault, and f the first of its faults
  record NamedFrom (k i j : ℕ) (f : Fault) : Type 0 where
    above : i ≤ j
    inside : j < i + k
    it_has : has j f
    lowest : (x : ℕ) → i ≤ x → x < j → (g : Fault) → has x g → ⊥
    first : (g : Fault) → order g < order f → has j g → ⊥

  here : (k i : ℕ) (f : Fault) → has i f → ((g : Fault) → order g < order f → has i g → ⊥) → NamedFrom (suc k) i i f
  here k i f h n = record { above = omega arith; inside = omega arith; it_has = h; lowest = λ x a b. absurd (omega arith); first = n }

  further : (k i j : ℕ) (f : Fault) → exact.Faultless backlog m cards cycles i → NamedFrom k (suc i) j f → NamedFrom (suc k) i j f
  further k i j f n v =
      record {
        above = omega (arith, v.above);
        inside = omega (arith, v.inside);
        it_has = v.it_has;
        lowest = λ x a b. elim (ℕ_discrete x i) [ yes e ↦ rw e (faultless_plain i n) | no e ↦ v.lowest x (omega arith) b ];
        first = v.first;
      }

  -- what comes before a fault in the order
  before_shared : (i : ℕ) → cycle_of cycles i ≢ 0 → (g : Fault) → order g < 1 → has i g → ⊥
  before_shared i n no_cycle l h = n h
  before_shared i n shared_card l h = omega arith
  before_shared i n overfull l h = omega arith

  before_overfull : (i : ℕ) → cycle_of cycles i ≢ 0 → shares cards cycles i ≡ false → (g : Fault) → order g < 2 → has i g → ⊥
  before_overfull i n s no_cycle l h = n h
  before_overfull i n s shared_card l h = alone_plain i s h
  before_overfull i n s overfull l h = omega arith

  same_fault : (v : Verdict) (i j : ℕ) (f g : Fault) → v ≡ faulty i f → v ≡ faulty j g → (P : ℕ → Fault → Type 0) → P i f → P j g
  same_fault v i j f g a b P p =
      let e : i ≡ j = cc in
      let q : f ≡ g = cc in
      rw (← e, ← q) p

  named_from :
      (k i : ℕ) (T p j : ℕ) (f : Fault) → judge_from backlog m cards cycles k i (valid T p) ≡ faulty j f → NamedFrom k i j f
  named_from zero i T p j f e = absurd (exact.not_faulty backlog m cards cycles (valid T p) j f T p e refl)
  named_from (suc k) i T p j f e =
      let v : Verdict = judge_from backlog m cards cycles k (suc i) (valid T p) in
      exact.by_fault backlog m cards cycles i
      (λ z.
      same_fault _ i j no_cycle f (exact.judged_no_cycle backlog m cards cycles i v z) e (NamedFrom (suc k) i)
      (here k i no_cycle z (λ g l. absurd (omega arith))))
      (λ n s.
      same_fault _ i j shared_card f (exact.judged_shared backlog m cards cycles i v n s) e (NamedFrom (suc k) i)
      (here k i shared_card (shared_plain i s) (before_shared i n)))
      (λ n s l.
      same_fault _ i j overfull f (exact.judged_overfull backlog m cards cycles i v n s l) e (NamedFrom (suc k) i)
      (here k i overfull l (before_overfull i n s)))
      (λ n. further k i j f n (named_from k (suc i) T p j f (sym (exact.judged_faultless backlog m cards cycles i v n) ∙ e)))

  pub named :
      (T p i : ℕ) (f : Fault) → judge_from backlog m cards cycles (length cards) 0 (valid T p) ≡ faulty i f → Named backlog m cards cycles i f
  named T p i f e =
      let v : NamedFrom (length cards) 0 i f = named_from (length cards) 0 T p i f e in
      record { inside = omega (arith, v.inside); has = v.it_has; lowest = λ j l. v.lowest j (omega arith) l; first = v.first }
