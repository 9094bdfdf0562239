-- The cycles of the frames, each known when its frame enters: one more than its card's latest cycle, or than the cycles made.
-- Frames 0 to n − 1 have entered and t cycles are made; `a i` is the cycle of frame i, `latest c` the latest cycle of card c, 0 for none.
-- Assumes nothing.
use Prim.Native.Nat.{ℕ, suc, ◌-◌, ◌≤◌, ◌<◌, max}
use mathlib.Core.Path.{◌≡◌, sym, ap, ◌∙◌}
use native.Mathlib.Omega.{arith}
use native.Mathlib.Decide.{dec_le, ℕ_discrete}
use Rattle.counting.proofs.Sums.{below_suc}

-- one of the frames before n has card c and cycle x
abbrev pub Has : (ℕ → ℕ) → (ℕ → ℕ) → ℕ → ℕ → ℕ → Type 0
Has card a n c x = (j : ℕ) × (j < n) × (card j ≡ c) × (a j ≡ x)

pub record Assigned (card : ℕ → ℕ) (n t : ℕ) (a latest : ℕ → ℕ) : Type 0 where
  pub from_one : (i : ℕ) → i < n → 1 ≤ a i
  -- never more cycles than frames
  pub few : (i : ℕ) → i < n → a i ≤ suc i
  -- the cycles of one card rise
  pub rises : (i j : ℕ) → i < j → j < n → card i ≡ card j → a i < a j
  -- of the cycles that are to come, a card leaves none out
  pub dense : (i : ℕ) → i < n → suc t < a i → Has card a i (card i) (a i - 1)
  -- `latest` is each card's largest cycle
  pub latest_over : (i : ℕ) → i < n → a i ≤ latest (card i)
  pub latest_met : (c : ℕ) → 1 ≤ latest c → Has card a n c (latest c)

pub assigned_none : (card a latest : ℕ → ℕ) → ((c : ℕ) → latest c ≡ 0) → Assigned card 0 0 a latest
assigned_none card a latest e =
    record {
      from_one = λ i l. absurd (omega arith);
      few = λ i l. absurd (omega arith);
      rises = λ i j k l. absurd (omega arith);
      dense = λ i l. absurd (omega arith);
      latest_over = λ i l. absurd (omega arith);
      latest_met = λ c l. absurd (omega (arith, e c));
    }

module _ {card : ℕ → ℕ} {n t : ℕ} {a latest : ℕ → ℕ} (v : Assigned card n t a latest) where
  -- one cycle more is made
  pub assigned_cycle : Assigned card n (suc t) a latest
  assigned_cycle =
      record {
        from_one = v.from_one;
        few = v.few;
        rises = v.rises;
        dense = λ i l k. v.dense i l (omega arith);
        latest_over = v.latest_over;
        latest_met = v.latest_met;
      }

  pub latest_le : (c : ℕ) → latest c ≤ n
  latest_le c =
      elim (dec_le 1 (latest c)) [
        | yes l ↦ (let b : Has card a n c (latest c) = v.latest_met c l in omega (arith, v.few b.0 b.1))
        | no l ↦ omega arith
      ]

  -- one frame more enters: its cycle is the first that its card has free
  module _ {a' latest' : ℕ → ℕ} (made : t ≤ n) (old : (i : ℕ) → i < n → a' i ≡ a i) (new : a' n ≡ suc (max (latest (card n)) t)) where
    module _ (here : latest' (card n) ≡ a' n) (there : (c : ℕ) → (c ≡ card n → ⊥) → latest' c ≡ latest c) where
      has_still : (i c x : ℕ) → i ≤ n → Has card a i c x → Has card a' i c x
      has_still i c x l b = (b.0, b.1, b.2, old b.0 (omega arith) ∙ b.3)

      latest_over_next : (i : ℕ) → i < n → a' i ≤ latest' (card i)
      latest_over_next i l =
          elim (ℕ_discrete (card i) (card n)) [
            | yes e ↦ omega (arith, ap latest e, ap latest' e, v.latest_over i l, old i l)
            | no e ↦ omega (arith, there (card i) e, v.latest_over i l, old i l)
          ]

      latest_met_next : (c : ℕ) → 1 ≤ latest' c → Has card a' (suc n) c (latest' c)
      latest_met_next c h =
          elim (ℕ_discrete c (card n)) [
            | yes e ↦ (n, omega arith, sym e, sym (ap latest' e ∙ here))
            | no e ↦
                (let b : Has card a n c (latest c) = v.latest_met c (omega (arith, there c e)) in
                (b.0, omega arith, b.2, old b.0 b.1 ∙ b.3 ∙ sym (there c e)))
          ]

      dense_next : (i : ℕ) → i < n → suc t < a' i → Has card a' i (card i) (a' i - 1)
      dense_next i l k = has_still i (card i) (a' i - 1) (omega arith) (rw (← old i l) at (v.dense i l (omega (arith, old i l))))

      dense_new : suc t < a' n → Has card a' n (card n) (a' n - 1)
      dense_new k =
          let b : Has card a n (card n) (latest (card n)) = v.latest_met (card n) (omega arith) in
          has_still n (card n) (a' n - 1) (omega arith) (b.0, b.1, b.2, omega arith)

      pub assigned_enter : Assigned card (suc n) t a' latest'
      assigned_enter =
          record {
            from_one = below_suc n (λ i. 1 ≤ a' i) (λ i l. rw (old i l) (v.from_one i l)) (omega arith);
            few = below_suc n (λ i. a' i ≤ suc i) (λ i l. rw (old i l) (v.few i l)) (omega (arith, latest_le (card n)));
            rises = λ i j l k.
                below_suc n (λ j. i < j → card i ≡ card j → a' i < a' j)
                (λ j k l e. rw (old i (omega arith), old j k) (v.rises i j l k e))
                (λ l e. omega (arith, old i l, v.latest_over i l, ap latest e)) j k l;
            dense = below_suc n (λ i. suc t < a' i → Has card a' i (card i) (a' i - 1)) dense_next dense_new;
            latest_over = below_suc n (λ i. a' i ≤ latest' (card i)) latest_over_next (omega arith);
            latest_met = latest_met_next;
          }
