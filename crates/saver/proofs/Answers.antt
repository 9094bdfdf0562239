-- The answers of save and close, case by case.
-- Assumes nothing.
use Prim.Native.Nat.{ℕ, ◌≤◌, ◌<◌}
use mathlib.Core.Path.{◌≡◌}
use mathlib.Core.Bool.{true, false}
use native.Mathlib.Omega.{arith}
use lib.Dec.{eqb, ltb}
use borrow.Author.Tests.{eq-eqb, ne_eqb, eqb-true, eqb-false, lt-ltb, le-ltb, ltb-true, ltb-false}
use Rattle.counting.proofs.Bits.{by_test}
use Rattle.header.specs.Limits.{max_frames}
use Rattle.saver.specs.declared.Saver.{Saver}
use Rattle.saver.specs.declared.Answer.{Answer}
use Rattle.saver.specs.Calls.{refusal, quiet, entered, cycle_on, then_enters, closing_begun, save_of, close_of}

module _ (s : Saver) (card : ℕ) where
  pub save_closed : s.closing ≡ true → save_of s card ≡ refusal 15 s
  unfolding save_of
  save_closed a = rw a

  module _ (a : s.closing ≡ false) where
    pub save_no_card : s.cards ≤ card → save_of s card ≡ refusal 8 s
    unfolding save_of
    save_no_card b = rw (a, le-ltb card s.cards b)

    module _ (b : card < s.cards) where
      pub save_all_taken : max_frames ≤ s.taken → save_of s card ≡ refusal 13 s
      unfolding save_of
      save_all_taken d = rw (a, lt-ltb card s.cards b, le-ltb s.taken max_frames d)

      module _ (d : s.taken < max_frames) where
        pub save_enters : s.waiting < s.pool → save_of s card ≡ quiet (entered s card)
        unfolding save_of
        save_enters e = rw (a, lt-ltb card s.cards b, lt-ltb s.taken max_frames d, lt-ltb s.waiting s.pool e)

        pub save_cycles : s.pool ≤ s.waiting → save_of s card ≡ then_enters (cycle_on s) card
        unfolding save_of
        save_cycles e = rw (a, lt-ltb card s.cards b, lt-ltb s.taken max_frames d, le-ltb s.waiting s.pool e)

  -- whatever holds in each case holds of the answer
  pub save_cases :
      (P : Answer → Type 0) → (s.closing ≡ true → P (refusal 15 s)) → (s.cards ≤ card → P (refusal 8 s))
      → (max_frames ≤ s.taken → P (refusal 13 s))
      → (s.closing ≡ false → card < s.cards → s.taken < max_frames → s.waiting < s.pool → P (quiet (entered s card)))
      → (s.closing ≡ false → card < s.cards → s.taken < max_frames → s.pool ≤ s.waiting → P (then_enters (cycle_on s) card))
      → P (save_of s card)
  unfolding save_of
  save_cases P p15 p8 p13 enters cycles =
      by_test P s.closing (refusal 15 s) _ p15
      (λ a. by_test P (ltb card s.cards) _ (refusal 8 s)
      (λ b. by_test P (ltb s.taken max_frames) _ (refusal 13 s)
      (λ d. by_test P (ltb s.waiting s.pool) (quiet (entered s card)) (then_enters (cycle_on s) card)
      (λ e. enters a (ltb-true card s.cards b) (ltb-true s.taken max_frames d) (ltb-true s.waiting s.pool e))
      (λ e. cycles a (ltb-true card s.cards b) (ltb-true s.taken max_frames d) (ltb-false s.waiting s.pool e)))
      (λ d. p13 (ltb-false s.taken max_frames d)))
      (λ b. p8 (ltb-false card s.cards b)))

module _ (s : Saver) where
  pub close_empty : s.waiting < 1 → close_of s ≡ refusal 14 s
  unfolding close_of
  close_empty e = let z : s.waiting ≡ 0 = omega arith in rw (eq-eqb s.waiting 0 z)

  pub close_cycles : 1 ≤ s.waiting → close_of s ≡ cycle_on (closing_begun s)
  unfolding close_of
  close_cycles e = rw (ne_eqb s.waiting 0 (λ z. omega arith))

  pub close_cases :
      (P : Answer → Type 0) → (s.waiting < 1 → P (refusal 14 s)) → (1 ≤ s.waiting → P (cycle_on (closing_begun s))) → P (close_of s)
  unfolding close_of
  close_cases P p14 cycles =
      by_test P (eqb s.waiting 0) (refusal 14 s) (cycle_on (closing_begun s))
      (λ a. p14 (omega (arith, eqb-true s.waiting 0 a)))
      (λ a. let some : s.waiting ≡ 0 → ⊥ = eqb-false s.waiting 0 a in cycles (omega (arith, some)))
