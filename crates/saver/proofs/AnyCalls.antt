-- Whatever calls are made, refused ones among them: the record shows a plan of the frames saved, and the calls' log is the log of that plan.
-- Assumes nothing.
use Prim.Native.Nat.{ℕ, zero, suc, ◌+◌, ◌<◌}
use mathlib.Core.Path.{◌≡◌, refl, sym, ap, ◌∙◌}
use mathlib.Core.List.{List, [], ◌∷◌, ◌++◌, append_assoc, append-nil}
use native.Mathlib.Omega.{arith}
use native.Mathlib.Decide.{ℕ_discrete}
use lib.ListN.{get_or, drop}
use borrow.Author.Tests.{eq-eqb, ne_eqb}
use Rattle.counting.specs.Frames.{card_of}
use Rattle.counting.proofs.Parts.{drop_head}
use Rattle.schedule.specs.Greedy.{Plan, one_cycle}
use Rattle.schedule.specs.Greedy as greedy
use Rattle.header.specs.Limits.{max_cards}
use Rattle.greedy_pool.specs.Log.{log_of}
use Rattle.greedy_pool.proofs.Saves.{cycle_logged, save_logged}
use Rattle.saver.specs.declared.Saver.{Saver}
use Rattle.saver.specs.declared.Answer.{Answer}
use Rattle.saver.specs.Calls.{save_of, close_of}
use Rattle.saver.specs.Formed.{Formed}
use Rattle.saver.specs.Follows.{ShowsPlan, Tells}
use Rattle.saver.specs.Runs.{Call, save, close, after, logged, log, accepted}
use Rattle.saver.proofs.Answers.{save_cases, close_cases}
use Rattle.saver.proofs.Forming.{formed_save, formed_close}
use Rattle.saver.proofs.Saving.{save_follows, close_follows}
use Rattle.saver.proofs.Runs.{tells_logged, Kept, save_kept, close_kept}

-- a save that is not refused uses up a position, and a closing cycle none
save_taken : (s : Saver) (card : ℕ) → (save_of s card).refusal ≡ 0 → (save_of s card).saver.taken ≡ s.taken + 1
save_taken s card =
    save_cases s card (λ (r : Answer). r.refusal ≡ 0 → r.saver.taken ≡ s.taken + 1) (λ a z. absurd (omega arith)) (λ b z. absurd (omega arith))
    (λ d z. absurd (omega arith))
    (λ a b d e z. refl)
    (λ a b d e z. refl)

close_taken : (s : Saver) → (close_of s).saver.taken ≡ s.taken
close_taken s = close_cases s (λ (r : Answer). r.saver.taken ≡ s.taken) (λ a. refl) (λ a. refl)

module _ (list : List ℕ) where
  -- the record after the calls shows a plan with their log at the end of its own
  abbrev pub Shown : Plan → Saver → List (List ℕ) → Type 0
  Shown p s entries = (q : Plan) × (ShowsPlan list q s) × (log_of list q ≡ log_of list p ++ entries)

  -- a call that is refused
  refused_shown : (p : Plan) (s : Saver) (r : Answer) (calls : List Call) → Kept s r → Shown p (after s calls) (log s calls)
      → Shown p (after r.saver calls) (logged r ++ log r.saver calls)
  refused_shown p s r calls k v = rw (k.0, k.1) v

  -- a call that tells a step
  told_shown : (p q : Plan) (r : Answer) (calls : List Call)
      → log_of list q ≡ log_of list p ++ logged r → Shown q (after r.saver calls) (log r.saver calls)
      → Shown p (after r.saver calls) (logged r ++ log r.saver calls)
  told_shown p q r calls e v =
      (v.0, v.1, v.2 ∙ ap (λ l. l ++ log r.saver calls) e ∙ append_assoc (log_of list p) (logged r) (log r.saver calls))

  pub calls_shown : (calls : List Call) (s : Saver) (p : Plan) → Formed s → ShowsPlan list p s → drop s.taken list ≡ accepted s calls
      → Shown p (after s calls) (log s calls)
  calls_shown [] s p f v e = (p, v, sym (append-nil (log_of list p)))
  calls_shown (save card ∷ calls) s p f v e =
      elim (ℕ_discrete (save_of s card).refusal 0) [
        | yes z ↦
            (let h : (get_or list s.taken 0 ≡ card) × (drop (s.taken + 1) list ≡ accepted (save_of s card).saver calls) =
            drop_head list s.taken card (accepted (save_of s card).saver calls) (rw (eq-eqb (save_of s card).refusal 0 z) at e) in
            let t : Tells list p (greedy.save_frame list s.pool p) (save_of s card) = (save_follows s card f).follows list p v h.0 z in
            told_shown p (greedy.save_frame list s.pool p) (save_of s card) calls
            (tells_logged list p (greedy.save_frame list s.pool p) (save_of s card) t (save_logged list s.pool p))
            (calls_shown calls (save_of s card).saver (greedy.save_frame list s.pool p) (formed_save s card f) t.shows
            (rw (save_taken s card z) h.1)))
        | no z ↦
            refused_shown p s (save_of s card) calls (save_kept s card z)
            (calls_shown calls s p f v
            (e ∙ rw (ne_eqb (save_of s card).refusal 0 z) (ap (λ (x : Saver). accepted x calls) (save_kept s card z).0)))
      ]
  calls_shown (close ∷ calls) s p f v e =
      elim (ℕ_discrete (close_of s).refusal 0) [
        | yes z ↦
            (let t : Tells list p (one_cycle list p) (close_of s) = (close_follows s f).follows list p v z in
            told_shown p (one_cycle list p) (close_of s) calls
            (tells_logged list p (one_cycle list p) (close_of s) t (cycle_logged list p))
            (calls_shown calls (close_of s).saver (one_cycle list p) (formed_close s f) t.shows (rw (close_taken s) e)))
        | no z ↦
            refused_shown p s (close_of s) calls (close_kept s z)
            (calls_shown calls s p f v (e ∙ ap (λ (x : Saver). accepted x calls) (close_kept s z).0))
      ]

-- the cards of the frames saved are below 32
save_card : (s : Saver) (card : ℕ) → Formed s → (save_of s card).refusal ≡ 0 → card < max_cards
save_card s card f =
    save_cases s card (λ (r : Answer). r.refusal ≡ 0 → card < max_cards) (λ a z. absurd (omega arith)) (λ b z. absurd (omega arith))
    (λ d z. absurd (omega arith))
    (λ a b d e z. omega (arith, f.few_cards))
    (λ a b d e z. omega (arith, f.few_cards))

cons_low : (x : ℕ) (l : List ℕ) → x < max_cards → ((i : ℕ) → card_of l i < max_cards) → (i : ℕ) → card_of (x ∷ l) i < max_cards
cons_low x l h g zero = h
cons_low x l h g (suc i) = g i

pub accepted_low : (calls : List Call) (s : Saver) → Formed s → (i : ℕ) → card_of (accepted s calls) i < max_cards
accepted_low [] s f = λ i. omega arith
accepted_low (save card ∷ calls) s f =
    elim (ℕ_discrete (save_of s card).refusal 0) [
      | yes z ↦
          rw (eq-eqb (save_of s card).refusal 0 z)
          (cons_low card (accepted (save_of s card).saver calls) (save_card s card f z) (accepted_low calls (save_of s card).saver (formed_save s card f)))
      | no z ↦ rw (ne_eqb (save_of s card).refusal 0 z) (accepted_low calls (save_of s card).saver (formed_save s card f))
    ]
accepted_low (close ∷ calls) s f = accepted_low calls (close_of s).saver (formed_close s f)

-- the pool that the saver was made for stays, and every record on the way is formed
pub formed_after : (calls : List Call) (s : Saver) → Formed s → Formed (after s calls) × ((after s calls).pool ≡ s.pool)
formed_after [] s f = (f, refl)
formed_after (save card ∷ calls) s f =
    let r : Formed (after (save_of s card).saver calls) × ((after (save_of s card).saver calls).pool ≡ (save_of s card).saver.pool) =
    formed_after calls (save_of s card).saver (formed_save s card f) in (
      r.0,
      r.1 ∙ save_cases s card (λ (a : Answer). a.saver.pool ≡ s.pool)
          (λ a. refl) (λ b. refl) (λ d. refl) (λ a b d e. refl) (λ a b d e. refl),
    )
formed_after (close ∷ calls) s f =
    let r : Formed (after (close_of s).saver calls) × ((after (close_of s).saver calls).pool ≡ (close_of s).saver.pool) =
    formed_after calls (close_of s).saver (formed_close s f) in
    (r.0, r.1 ∙ close_cases s (λ (a : Answer). a.saver.pool ≡ s.pool) (λ a. refl) (λ a. refl))
