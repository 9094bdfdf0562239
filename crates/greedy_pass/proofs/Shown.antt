-- A plan in the making shows the assigned cycles: of the frames written their cycle, of those that wait 0. Its steps keep this.
-- Assumes nothing.
use Prim.Native.Nat.{ℕ, zero, suc, ◌+◌, ◌-◌, ◌≤◌, ◌<◌, max}
use mathlib.Core.Path.{◌≡◌, sym, ap, ◌∙◌}
use mathlib.Core.Bool.{Bool, true, false, ◌&&◌, cond}
use mathlib.Core.List.{List, [], ◌∷◌, ◌++◌}
use native.Mathlib.Omega.{arith}
use native.Mathlib.Decide.{dec_le, dec_lt, ℕ_discrete}
use lib.Dec.{eqb, ltb}
use lib.ListN.{length, length-append, get_or-append}
use lib.Seq.{get_or_at}
use borrow.Author.Tests.{eq-eqb, ne_eqb, eqb-true, eqb-false, le-leb, lt-leb, lt-ltb, le-ltb}
use Rattle.counting.specs.Count.{bit, how_many}
use Rattle.counting.specs.Frames.{card_of}
use Rattle.schedule.specs.Schedule.{cycle_of}
use Rattle.schedule.specs.Greedy.{Plan, waits, in_pool, enter, is_first, one_cycle, flush}
use Rattle.counting.proofs.Bits.{by_test}
use Rattle.counting.proofs.Sums.{sum_cong, sum_zero, sum_term_le, below_suc}
use Rattle.counting.proofs.Lists.{length_tabulate, get_or_tabulate}
use Rattle.greedy_pass.specs.AsOf.{as_of}
use Rattle.greedy_pass.proofs.Assigned.{Has, Assigned, assigned_cycle, assigned_enter}

-- a frame waits where its cycle is to come
as_of_waits : (t x : ℕ) → 1 ≤ x → eqb (as_of t x) 0 ≡ ltb t x
as_of_waits t x h =
    elim (dec_le x t) [
      | yes l ↦ rw (le-leb x t l, ne_eqb x 0 (λ e. omega arith), le-ltb t x l)
      | no l ↦ rw (lt-leb x t (omega arith), lt-ltb t x (omega arith))
    ]

pub as_of_made : (t x : ℕ) → x ≤ t → as_of t x ≡ x
as_of_made t x h = rw (le-leb x t h)

as_of_next : (t x : ℕ) → cond (eqb x (suc t)) (suc t) (as_of t x) ≡ as_of (suc t) x
as_of_next t x =
    elim (ℕ_discrete x (suc t)) [
      | yes e ↦ rw (eq-eqb x (suc t) e, le-leb x (suc t) (omega arith)) (sym e)
      | no e ↦
          rw (ne_eqb x (suc t) e)
          (elim (dec_le x t) [
            | yes l ↦ rw (le-leb x t l, le-leb x (suc t) (omega arith))
            | no l ↦ rw (lt-leb x t (omega arith), lt-leb x (suc t) (omega arith))
          ])
    ]

pub record Shows (cards : List ℕ) (n : ℕ) (p : Plan) (a latest : ℕ → ℕ) : Type 0 where
  pub long : length p.cycles ≡ n
  pub shown : (i : ℕ) → i < n → cycle_of p.cycles i ≡ as_of p.T (a i)
  pub assigned : Assigned (card_of cards) n p.T a latest

module _ {cards : List ℕ} {n : ℕ} {p : Plan} {a latest : ℕ → ℕ} (v : Shows cards n p a latest) where
  waits_is : (i : ℕ) → i < n → waits p.cycles i ≡ ltb p.T (a i)
  waits_is i l = rw (v.shown i l) (as_of_waits p.T (a i) (v.assigned.from_one i l))

  pub in_pool_is : in_pool p.cycles ≡ how_many n (λ i. ltb p.T (a i))
  in_pool_is = rw v.long (sum_cong n (λ i. bit (waits p.cycles i)) (λ i. bit (ltb p.T (a i))) (λ i l. ap bit (waits_is i l)))

  -- frame j waits and is on the card of frame i
  abbrev waits_with : ℕ → ℕ → Bool
  waits_with i j = eqb (card_of cards j) (card_of cards i) && waits p.cycles j

  none_before : (i j : ℕ) → i < n → a i ≡ suc p.T → j < i → bit (waits_with i j) ≡ 0
  none_before i j l e k =
      elim (ℕ_discrete (card_of cards j) (card_of cards i)) [
        | yes c ↦
            rw (
              eq-eqb (card_of cards j) (card_of cards i) c,
              waits_is j (omega arith),
              le-ltb p.T (a j) (omega (arith, v.assigned.rises j i k l c)),
            )
        | no c ↦ rw (ne_eqb (card_of cards j) (card_of cards i) c)
      ]

  some_before : (i : ℕ) → i < n → suc p.T < a i → 1 ≤ how_many i (waits_with i)
  some_before i l h =
      let b : Has (card_of cards) a i (card_of cards i) (a i - 1) = v.assigned.dense i l h in
      let w : waits_with i b.0 ≡ true =
      rw (eq-eqb (card_of cards b.0) (card_of cards i) b.2, waits_is b.0 (omega arith), lt-ltb p.T (a b.0) (omega arith)) in
      omega (arith, sum_term_le i (λ j. bit (waits_with i j)) b.0 b.1, ap bit w)

  -- the frame that its card writes next is the one assigned to the next cycle
  first_is : (i : ℕ) → i < n → is_first cards p.cycles i ≡ eqb (a i) (suc p.T)
  first_is i l =
      elim (dec_le (a i) p.T) [
        | yes k ↦ rw (waits_is i l, le-ltb p.T (a i) k, ne_eqb (a i) (suc p.T) (λ e. omega arith))
        | no k ↦
            rw (waits_is i l, lt-ltb p.T (a i) (omega arith))
            (elim (ℕ_discrete (a i) (suc p.T)) [
              | yes e ↦
                  rw (eq-eqb (a i) (suc p.T) e)
                  (eq-eqb (how_many i (waits_with i)) 0
                  (sum_cong i (λ j. bit (waits_with i j)) (λ j. 0) (λ j g. none_before i j l e g) ∙ sum_zero i))
              | no e ↦
                  rw (ne_eqb (a i) (suc p.T) e)
                  (ne_eqb (how_many i (waits_with i)) 0 (λ z. omega (arith, some_before i l (omega arith))))
            ])
      ]

  pub shows_cycle : Shows cards n (one_cycle cards p) a latest
  shows_cycle =
      let f : ℕ → ℕ = λ i. cond (is_first cards p.cycles i) (suc p.T) (cycle_of p.cycles i) in
      record {
        long = length_tabulate (length p.cycles) f ∙ v.long;
        shown = λ i l.
            get_or_tabulate (length p.cycles) f i 0 (omega (arith, v.long)) ∙ rw (first_is i l, v.shown i l) (as_of_next p.T (a i));
        assigned = assigned_cycle v.assigned;
      }

  pub shows_enter :
      {a' latest' : ℕ → ℕ} → p.T ≤ n → ((i : ℕ) → i < n → a' i ≡ a i) → a' n ≡ suc (max (latest (card_of cards n)) p.T)
      → latest' (card_of cards n) ≡ a' n → ((c : ℕ) → (c ≡ card_of cards n → ⊥) → latest' c ≡ latest c)
      → Shows cards (suc n) (enter p) a' latest'
  shows_enter {a'} {latest'} made old new here there =
      record {
        long = omega (arith, length-append p.cycles (0 ∷ []), v.long);
        shown =
            below_suc n (λ i. cycle_of (p.cycles ++ (0 ∷ [])) i ≡ as_of p.T (a' i))
            (λ i l. get_or-append p.cycles (0 ∷ []) 0 i (omega (arith, v.long)) ∙ v.shown i l ∙ ap (as_of p.T) (sym (old i l)))
            (get_or_at p.cycles 0 [] 0 n v.long ∙ rw (lt-leb (a' n) p.T (omega arith)));
        assigned = assigned_enter v.assigned made old new here there;
      }

-- T is the largest of the first n cycles
pub record Top (n : ℕ) (a : ℕ → ℕ) (T : ℕ) : Type 0 where
  pub over : (i : ℕ) → i < n → a i ≤ T
  pub met : 1 ≤ T → (i : ℕ) × (i < n) × (a i ≡ T)

module _ {cards : List ℕ} {n T : ℕ} {p : Plan} {a latest : ℕ → ℕ} (v : Shows cards n p a latest) (top : Top n a T) (low : p.T ≤ T) where
  stops : eqb (in_pool p.cycles) 0 ≡ true → p.T ≡ T
  stops e =
      elim (dec_le T p.T) [
        | yes h ↦ omega arith
        | no h ↦
            (let g : (i : ℕ) × (i < n) × (a i ≡ T) = top.met (omega arith) in
            absurd
            (omega (
              arith,
              in_pool_is v,
              eqb-true (in_pool p.cycles) 0 e,
              sum_term_le n (λ i. bit (ltb p.T (a i))) g.0 g.1,
              ap bit (lt-ltb p.T (a g.0) (omega arith)),
            )))
      ]

  goes_on : eqb (in_pool p.cycles) 0 ≡ false → suc p.T ≤ T
  goes_on e =
      elim (dec_lt p.T T) [
        | yes h ↦ h
        | no h ↦
            absurd
            (eqb-false (in_pool p.cycles) 0 e
            (in_pool_is v
            ∙ sum_cong n (λ i. bit (ltb p.T (a i))) (λ i. 0) (λ i l. ap bit (le-ltb p.T (a i) (omega (arith, top.over i l))))
            ∙ sum_zero n))
      ]

-- the closing cycles go up to T
pub flush_shows :
    (cards : List ℕ) (n k T : ℕ) (p : Plan) (a latest : ℕ → ℕ) → Shows cards n p a latest → Top n a T → p.T ≤ T → T ≤ p.T + k
    → ((flush cards k p).T ≡ T) × Shows cards n (flush cards k p) a latest
flush_shows cards n zero T p a latest v top low high = (omega arith, v)
flush_shows cards n (suc k) T p a latest v top low high =
    by_test (λ r. (r.T ≡ T) × Shows cards n r a latest) (eqb (in_pool p.cycles) 0) p (flush cards k (one_cycle cards p))
    (λ e. (stops v top low e, v))
    (λ e. flush_shows cards n k T (one_cycle cards p) a latest (shows_cycle v) top (goes_on v top low e) (omega arith))
