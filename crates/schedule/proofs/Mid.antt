-- What holds while a correct read schedule drives the dock, after each of its steps.
-- After n cycles the first frame not delivered has a later cycle, so what is held besides it is within its backlog.
-- Assumes nothing.
use Prim.Native.Nat.{ℕ, suc, ◌+◌, ◌-◌, ◌≤◌, ◌<◌, zero-le}
use mathlib.Core.Path.{◌≡◌, refl, sym, ap, ◌∙◌}
use mathlib.Core.Logic.{◌≢◌}
use mathlib.Core.Bool.{true, false, ◌&&◌, ◌||◌, false≢true}
use mathlib.Core.List.{List}
use native.Mathlib.Omega.{arith}
use native.Mathlib.Decide.{dec_le, dec_lt, ℕ_discrete}
use lib.Dec.{eqb, leb, ltb}
use lib.ListN.{length}
use borrow.Author.Tests.{eq-eqb, ne_eqb, leb-true, le-leb, lt-leb, lt-ltb, le-ltb}
use Rattle.counting.specs.Count.{bit}
use Rattle.counting.specs.Frames.{card_of}
use Rattle.schedule.specs.Schedule.{cycle_of, i_backlog, CorrectRead}
use Rattle.schedule.specs.Dock.{read_frame, end_cycle, Dock, empty_dock, is_in, deliver, holding, perform, step}
use Rattle.counting.proofs.Bits.{by_cases, and_left, and_right, or_right, bit_le_one}
use Rattle.counting.proofs.Sums.{sum_mono, sum_add, sum_zero, equal_at_most_one}
use Rattle.schedule.proofs.Deliver.{deliver_from, deliver_within, deliver_stops, deliver_held}

module _ (cards cycles : List ℕ) where
  abbrev L : ℕ
  L = length cards

  abbrev card : ℕ → ℕ
  card = card_of cards

  abbrev cyc : ℕ → ℕ
  cyc = cycle_of cycles

  -- n cycles have ended, and of the next cycle's frames those below k are read
  pub record Mid (n k : ℕ) (d : Dock) : Type 0 where
    pub inside : d.delivered ≤ L
    pub unbroken : d.broken ≡ false
    pub ends : d.ended ≡ n
    pub done : (i : ℕ) → i < d.delivered → cyc i ≤ n
    pub next : d.delivered < L → n < cyc d.delivered
    pub held_only : (i : ℕ) → i < L → d.held i ≡ true → (d.delivered ≤ i) × (cyc i ≤ suc n)
    pub held_old : (i : ℕ) → i < L → d.delivered ≤ i → cyc i ≤ n → d.held i ≡ true
    pub held_new : (i : ℕ) → i < L → d.delivered ≤ i → cyc i ≡ suc n → i < k → d.held i ≡ true
    pub free : (i : ℕ) → i < L → k ≤ i → cyc i ≡ suc n → is_in (card i) d.busy ≡ false

  -- what is held: the first frame not delivered, and frames of its backlog

  held_backlog : (n k : ℕ) (d : Dock) → Mid n k d → d.delivered < L → (i : ℕ) → i < L
      → bit (d.held i) ≤ bit (eqb i d.delivered) + bit (ltb d.delivered i && leb (cyc i) (cyc d.delivered))
  held_backlog n k d v l i g =
      by_cases (d.held i)
      (λ e.
      let w : (d.delivered ≤ i) × (cyc i ≤ suc n) = v.held_only i g e in
      elim (ℕ_discrete i d.delivered) [
        | yes y ↦ rw (eq-eqb i d.delivered y) (omega (arith, bit_le_one (d.held i)))
        | no y ↦
            (let a : d.delivered < i = omega arith in
            let b : cyc i ≤ cyc d.delivered = omega (arith, v.next l) in
            rw (lt-ltb d.delivered i a, le-leb (cyc i) (cyc d.delivered) b) (omega (arith, bit_le_one (d.held i))))
      ])
      (λ e. rw e zero-le)

  -- so a number above every backlog is no less
  pub held_within : length cycles ≡ L → (n k : ℕ) (d : Dock) → Mid n k d → (b : ℕ) → ((i : ℕ) → i < L → i_backlog cycles i < b) → holding cards d ≤ b
  held_within one_each n k d v b top =
      elim (dec_lt d.delivered L) [
        | yes l ↦
            omega (
              arith,
              rw one_each at (top d.delivered l),
              sum_mono L (λ i. bit (d.held i))
                  (λ i. bit (eqb i d.delivered) + bit (ltb d.delivered i && leb (cyc i) (cyc d.delivered))) (held_backlog n k d v l),
              sum_add L (λ i. bit (eqb i d.delivered)) (λ i. bit (ltb d.delivered i && leb (cyc i) (cyc d.delivered))),
              equal_at_most_one L d.delivered,
            )
        | no l ↦
            omega (
              arith,
              sum_mono L (λ i. bit (d.held i)) (λ i. 0)
                  (λ i g. by_cases (d.held i) (λ e. absurd (omega (arith, v.held_only i g e))) (λ e. rw e (omega arith))),
              sum_zero L,
            )
      ]

  -- after the reads of a cycle all frames are held that have had their cycle and are not delivered
  pub all_held : (n : ℕ) (d : Dock) → Mid n L d → (i : ℕ) → i < L → d.delivered ≤ i → cyc i ≤ suc n → d.held i ≡ true
  all_held n d v i l h a = elim (dec_le (cyc i) n) [ yes g ↦ v.held_old i l h g | no g ↦ v.held_new i l h (omega arith) l ]

  module _ (m : ℕ) (ok : CorrectRead m cards cycles) where
    pub mid_pool : (n k : ℕ) (d : Dock) → Mid n k d → holding cards d ≤ m
    mid_pool n k d v = held_within ok.proper.one_each n k d v m ok.pool_rule

    -- the reads of a cycle

    pub mid_skip : (n k : ℕ) (d : Dock) → cyc k ≢ suc n → Mid n k d → Mid n (suc k) d
    mid_skip n k d z v =
        record {
          inside = v.inside;
          unbroken = v.unbroken;
          ends = v.ends;
          done = v.done;
          next = v.next;
          held_only = v.held_only;
          held_old = v.held_old;
          held_new = λ i l h a g. v.held_new i l h a (elim (ℕ_discrete i k) [ yes e ↦ absurd (z (rw e at a)) | no e ↦ omega arith ]);
          free = λ i l g a. v.free i l (omega arith) a;
        }

    step_read : (n k : ℕ) (d : Dock) → k < L → cyc k ≡ suc n → Mid n k d → step m cards (read_frame k) d ≡ perform cards (read_frame k) d
    step_read n k d l z v = rw (v.unbroken, lt-leb L k l, v.free k l (omega arith) z)

    still_held : (k : ℕ) (d : Dock) (i : ℕ) → d.held i ≡ true → (perform cards (read_frame k) d).held i ≡ true
    still_held k d i x =
        elim (ℕ_discrete i k) [
          | yes y ↦ (let t : d.held k ≡ true = rw y at x in rw (eq-eqb i k y, t))
          | no y ↦ rw (ne_eqb i k y) x
        ]

    pub mid_read : (n k : ℕ) (d : Dock) → k < L → cyc k ≡ suc n → Mid n k d → Mid n (suc k) (step m cards (read_frame k) d)
    mid_read n k d l z v =
        rw (step_read n k d l z v)
        (record {
          inside = v.inside;
          unbroken = refl;
          ends = v.ends;
          done = v.done;
          next = v.next;
          held_only = λ i g e.
              elim (ℕ_discrete i k) [
                | yes y ↦
                    (let here : (d.held k || leb d.delivered k) ≡ true = rw (eq-eqb i k y) at e in
                    by_cases (d.held k)
                    (λ a. let w : (d.delivered ≤ k) × (cyc k ≤ suc n) = v.held_only k l a in (omega arith, rw y w.1))
                    (λ a. let f : leb d.delivered k ≡ true = rw a at here in (omega (arith, leb-true d.delivered k f), rw y (omega arith))))
                | no y ↦ v.held_only i g (rw (ne_eqb i k y) at e)
              ];
          held_old = λ i g h a. still_held k d i (v.held_old i g h a);
          held_new = λ i g h a b.
              elim (ℕ_discrete i k) [
                | yes y ↦
                    (let f : d.delivered ≤ k = omega arith in
                    rw (eq-eqb i k y) (or_right (d.held k) (leb d.delivered k) (le-leb d.delivered k f)))
                | no y ↦ still_held k d i (v.held_new i g h a (omega arith))
              ];
          free = λ i g f a. rw (ne_eqb (card i) (card k) (λ e. ok.proper.card_rule k i f g (sym e) (omega arith)), v.free i g (omega arith) a);
        })

    -- the end of a cycle

    pub mid_end : (n : ℕ) (d : Dock) → Mid n L d → Mid (suc n) 0 (step m cards end_cycle d)
    mid_end n d v =
        let h : ℕ = deliver d.held (L - d.delivered) d.delivered in
        rw (v.unbroken, le-ltb m (holding cards d) (mid_pool n L d v))
        (record {
          inside = omega (arith, deliver_within d.held (L - d.delivered) d.delivered, v.inside);
          unbroken = refl;
          ends = ap suc v.ends;
          done = λ i l.
              elim (dec_lt i d.delivered) [
                | yes g ↦ omega (arith, v.done i g)
                | no g ↦
                    (v.held_only i (omega (arith, deliver_within d.held (L - d.delivered) d.delivered, v.inside))
                    (deliver_held d.held (L - d.delivered) d.delivered i (omega arith) l)).1
              ];
          next = λ l.
              elim (dec_le (cyc h) (suc n)) [
                | yes g ↦
                    absurd (false≢true (sym (deliver_stops d.held (L - d.delivered) d.delivered (omega (arith, v.inside)))
                    ∙ all_held n d v h l (deliver_from d.held (L - d.delivered) d.delivered) g))
                | no g ↦ omega arith
              ];
          held_only = λ i l e. (leb-true h i (and_right (d.held i) (leb h i) e), omega (arith, v.held_only i l (and_left (d.held i) (leb h i) e)));
          held_old = λ i l g a. rw (all_held n d v i l (omega (arith, deliver_from d.held (L - d.delivered) d.delivered)) a, le-leb h i g);
          held_new = λ i l g a k. absurd (omega arith);
          free = λ i l k a. refl;
        })

    -- the cycles one after the other

    pub mid_start : Mid 0 0 empty_dock
    mid_start =
        record {
          inside = zero-le;
          unbroken = refl;
          ends = refl;
          done = λ i l. absurd (omega arith);
          next = λ l. ok.proper.from_one 0 l;
          held_only = λ i l e. absurd (false≢true e);
          held_old = λ i l h a. absurd (omega (arith, ok.proper.from_one i l));
          held_new = λ i l h a k. absurd (omega arith);
          free = λ i l k a. refl;
        }
