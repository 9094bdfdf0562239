-- What holds throughout greedy_writing, with frames 0 to n − 1 entered, `y i` the cycle of frame i (0 while it waits) and t cycles made:
-- each card has written exactly what the bound allows, and what is written is a correct schedule so far.
-- Assumes nothing.
use Prim.Native.Nat.{ℕ, suc, ◌≤◌, ◌<◌, min, zero-le}
use mathlib.Core.Path.{◌≡◌, ap, ◌∙◌}
use mathlib.Core.Bool.{true, false, not, ◌&&◌, ◌||◌, and-true}
use mathlib.Core.List.{List}
use native.Mathlib.Omega.{arith}
use native.Mathlib.Decide.{dec_le, dec_lt, ℕ_discrete}
use lib.Dec.{eqb, leb, eqb-suc-zero}
use lib.ListN.{length}
use borrow.Author.Tests.{eqb-true, eqb-false, leb-true, le-leb, lt-leb}
use Rattle.counting.specs.Count.{bit, sum, how_many}
use Rattle.counting.specs.Frames.{card_of}
use Rattle.counting.proofs.Bits.{by_cases, or_cases, and_left, bit_mono, bit_le_one, bit_and_off}
use Rattle.counting.proofs.Sums.{sum_cong, sum_mono, passes_after}
use Rattle.schedule.proofs.Bound.{on_card, admitted, bound, bound_suc}
use Rattle.schedule.proofs.Pool.{
  wait,
  wait_on,
  first,
  written,
  Cycled,
  written_waiting,
  written_next,
  made_next,
  card_rule_next,
  pool_written,
  pool_next,
}

module _ (m : ℕ) (cards : List ℕ) (D : ℕ) (low : (i : ℕ) → i < length cards → card_of cards i < D) where
  abbrev L : ℕ
  L = length cards

  abbrev card : ℕ → ℕ
  card = card_of cards

  abbrev B : ℕ → ℕ → ℕ
  B = bound m D L card

  -- how many frames of card c are written up to cycle u
  abbrev pub up_to : ℕ → (ℕ → ℕ) → ℕ → ℕ → ℕ
  up_to n y u c = how_many n (λ i. eqb (card i) c && (not (wait cards y i) && leb (y i) u))

  pub record Inv (n : ℕ) (y : ℕ → ℕ) (t : ℕ) : Type 0 where
    pub inside : n ≤ L
    pub pool_small : how_many n (wait cards y) ≤ m
    -- what is written meets the bound, now and after each earlier cycle
    pub meets_bound : (c : ℕ) → written cards n y c ≡ B t c
    pub met_bound : (u c : ℕ) → u ≤ t → up_to n y u c ≡ B u c
    -- no cycle is made before the bound allows all frames
    pub no_cycle_lost : (e : ℕ) → L ≤ sum D (B e) → t ≤ e
    pub cycles_made : (i : ℕ) → i < n → y i ≤ t
    -- the card rule and the pool rule, of the frames written so far
    pub card_rule : (i j : ℕ) → i < j → j < n → card i ≡ card j → y i ≡ y j → y i ≡ 0
    pub pool_rule : (i : ℕ) → i < n → 1 ≤ y i → how_many i (λ j. wait cards y j || leb (y i) (y j)) < m

  pub written_total : (n : ℕ) (y : ℕ → ℕ) (t : ℕ) → Inv n y t → sum D (written cards n y) ≡ sum D (B t)
  written_total n y t v = sum_cong D (written cards n y) (B t) (λ c l. v.meets_bound c)

  module _ (n : ℕ) (y : ℕ → ℕ) (t : ℕ) (y' : ℕ → ℕ) (v : Inv n y t) where
    -- one cycle, made when everything that may enter has entered
    module _ (h : Cycled cards n y t y') (some : 1 ≤ how_many n (wait cards y)) (full : n ≡ admitted m D L card (B t)) where
      stays : (j : ℕ) → j < n → wait cards y j ≡ false → y' j ≡ y j
      stays j l e = rw e at (h j l)

      first_waits : (i : ℕ) → first cards y i ≡ true → wait cards y i ≡ true
      first_waits i a = and_left (wait cards y i) (eqb (how_many i (wait_on cards y (card i))) 0) a

      meets_bound_next : (c : ℕ) → written cards n y' c ≡ B (suc t) c
      meets_bound_next c =
          let g : B (suc t) c ≡ min (suc (B t c)) (on_card m D L card n c) = rw (← full) at (bound_suc m D L card t c) in
          omega (arith, written_next cards n y t y' h c, written_waiting cards n y c, v.meets_bound c)

      cycles_made_next : (i : ℕ) → i < n → y' i ≤ suc t
      cycles_made_next = made_next cards n y t y' h v.cycles_made

      -- what was written up to an earlier cycle stays so
      up_to_point : (u c i : ℕ) → u ≤ t → i < n
          → bit (eqb (card i) c && (not (wait cards y' i) && leb (y' i) u)) ≡ bit (eqb (card i) c && (not (wait cards y i) && leb (y i) u))
      up_to_point u c i k l =
          by_cases (first cards y i)
          (λ a.
          let z : y' i ≡ suc t = rw a at (h i l) in
          let g : u < suc t = omega arith in
          rw (z, lt-leb (suc t) u g, first_waits i a, eqb-suc-zero t))
          (λ a. let z : y' i ≡ y i = rw a at (h i l) in rw z)

      met_bound_next : (u c : ℕ) → u ≤ suc t → up_to n y' u c ≡ B u c
      met_bound_next u c k =
          elim (dec_le u t) [
            | yes l ↦
                sum_cong n (λ i. bit (eqb (card i) c && (not (wait cards y' i) && leb (y' i) u)))
                (λ i. bit (eqb (card i) c && (not (wait cards y i) && leb (y i) u)))
                (λ i g. up_to_point u c i l g)
                ∙ v.met_bound u c l
            | no l ↦
                (let e : u ≡ suc t = omega arith in
                rw e
                (sum_cong n (λ i. bit (eqb (card i) c && (not (wait cards y' i) && leb (y' i) (suc t))))
                (λ i. bit (eqb (card i) c && not (wait cards y' i)))
                (λ i g. rw (le-leb (y' i) (suc t) (cycles_made_next i g), and-true (not (wait cards y' i))))
                ∙ meets_bound_next c))
          ]

      no_cycle_lost_next : (e : ℕ) → L ≤ sum D (B e) → suc t ≤ e
      no_cycle_lost_next e k =
          elim (ℕ_discrete t e) [
            | yes q ↦
                (let k' : L ≤ sum D (B t) = rw (← q) at k in
                absurd (omega (arith, pool_written cards D low n y v.inside, written_total n y t v, v.inside)))
            | no q ↦ omega (arith, v.no_cycle_lost e k)
          ]

      -- a frame whose cycle is not before that of one just written, or is to come, was in the pool with it
      was_waiting : (i j : ℕ) → y' i ≡ suc t → j < n → (wait cards y' j || leb (y' i) (y' j)) ≡ true → wait cards y j ≡ true
      was_waiting i j u l x =
          by_cases (wait cards y j) (λ e. e)
          (λ e. let s : y' j ≡ y j = stays j l e in
          or_cases (wait cards y' j) (leb (y' i) (y' j)) x
          (λ z. absurd (eqb-false (y j) 0 e (omega (arith, eqb-true (y' j) 0 z))))
          (λ z. absurd (omega (arith, leb-true (y' i) (y' j) z, v.cycles_made j l))))

      was_behind : (i j : ℕ) → y' i ≡ y i → j < n
          → (wait cards y' j || leb (y' i) (y' j)) ≡ true → (wait cards y j || leb (y i) (y j)) ≡ true
      was_behind i j u l x =
          by_cases (wait cards y j) (λ e. rw e) (λ e. rw (stays j l e, u) at x)

      pool_rule_next : (i : ℕ) → i < n → 1 ≤ y' i → how_many i (λ j. wait cards y' j || leb (y' i) (y' j)) < m
      pool_rule_next i l k =
          by_cases (first cards y i)
          (λ a. let u : y' i ≡ suc t = rw a at (h i l) in
          omega (
            arith,
            v.pool_small,
            passes_after n i (wait cards y) l (first_waits i a),
            sum_mono i (λ j. bit (wait cards y' j || leb (y' i) (y' j))) (λ j. bit (wait cards y j))
                (λ j g. bit_mono (wait cards y' j || leb (y' i) (y' j)) (wait cards y j) (was_waiting i j u (omega arith))),
          ))
          (λ a. let u : y' i ≡ y i = rw a at (h i l) in
          omega (
            arith,
            v.pool_rule i l (omega arith),
            sum_mono i (λ j. bit (wait cards y' j || leb (y' i) (y' j))) (λ j. bit (wait cards y j || leb (y i) (y j)))
                (λ j g. bit_mono (wait cards y' j || leb (y' i) (y' j)) (wait cards y j || leb (y i) (y j)) (was_behind i j u (omega arith))),
          ))

      pub inv_cycle : Inv n y' (suc t)
      inv_cycle =
          record {
            inside = v.inside;
            pool_small = omega (arith, pool_next cards D low n y t y' h v.inside some, v.pool_small);
            meets_bound = meets_bound_next;
            met_bound = met_bound_next;
            no_cycle_lost = no_cycle_lost_next;
            cycles_made = cycles_made_next;
            card_rule = card_rule_next cards n y t y' h v.cycles_made v.card_rule;
            pool_rule = pool_rule_next;
          }

    -- the next frame enters
    module _ (more : n < L) (room : how_many n (wait cards y) < m) (old : (i : ℕ) → i < n → y' i ≡ y i) (new : y' n ≡ 0) where
      meets_bound_enter : (c : ℕ) → written cards (suc n) y' c ≡ B t c
      meets_bound_enter c =
          omega (
            arith,
            v.meets_bound c,
            sum_cong n (λ i. bit (eqb (card i) c && not (wait cards y' i))) (λ i. bit (eqb (card i) c && not (wait cards y i))) (λ i l. rw (old i l)),
            bit_and_off (eqb (card n) c) (not (wait cards y' n)) (rw new),
          )

      met_bound_enter : (u c : ℕ) → u ≤ t → up_to (suc n) y' u c ≡ B u c
      met_bound_enter u c k =
          omega (
            arith,
            v.met_bound u c k,
            sum_cong n (λ i. bit (eqb (card i) c && (not (wait cards y' i) && leb (y' i) u)))
                (λ i. bit (eqb (card i) c && (not (wait cards y i) && leb (y i) u)))
                (λ i l. rw (old i l)),
            bit_and_off (eqb (card n) c) (not (wait cards y' n) && leb (y' n) u) (rw new),
          )

      card_rule_enter : (i j : ℕ) → i < j → j < suc n → card i ≡ card j → y' i ≡ y' j → y' i ≡ 0
      card_rule_enter i j l k c e =
          elim (dec_lt j n) [
            | yes g ↦
                (let a : y' i ≡ y i = old i (omega arith) in
                let b : y' j ≡ y j = old j g in
                a ∙ v.card_rule i j l g c (omega arith))
            | no g ↦ (let z : j ≡ n = omega arith in e ∙ ap y' z ∙ new)
          ]

      pool_rule_enter : (i : ℕ) → i < suc n → 1 ≤ y' i → how_many i (λ j. wait cards y' j || leb (y' i) (y' j)) < m
      pool_rule_enter i l k =
          elim (dec_lt i n) [
            | yes g ↦
                (let a : y' i ≡ y i = old i g in
                omega (
                  arith,
                  v.pool_rule i g (omega arith),
                  sum_cong i (λ j. bit (wait cards y' j || leb (y' i) (y' j))) (λ j. bit (wait cards y j || leb (y i) (y j)))
                      (λ j x. rw (old j (omega arith), a)),
                ))
            | no g ↦ (let z : i ≡ n = omega arith in absurd (omega (arith, ap y' z)))
          ]

      pub inv_enter : Inv (suc n) y' t
      inv_enter =
          record {
            inside = more;
            pool_small =
                omega (
                  arith,
                  room,
                  bit_le_one (wait cards y' n),
                  sum_cong n (λ i. bit (wait cards y' i)) (λ i. bit (wait cards y i)) (λ i l. rw (old i l)),
                );
            meets_bound = meets_bound_enter;
            met_bound = met_bound_enter;
            no_cycle_lost = v.no_cycle_lost;
            cycles_made = λ i l. elim (dec_lt i n) [
              | yes k ↦ rw (old i k) (v.cycles_made i k)
              | no k ↦ (let e : i ≡ n = omega arith in rw (e, new) zero-le)
            ];
            card_rule = card_rule_enter;
            pool_rule = pool_rule_enter;
          }
