-- Calls one after the other: their log is the log of the plan that the record shows.
-- Assumes nothing.
use Prim.Native.Nat.{ℕ, suc}
use mathlib.Core.Path.{◌≡◌, refl, sym, ap, ◌∙◌}
use mathlib.Core.Logic.{inl, inr, ◌≢◌}
use mathlib.Core.List.{List, [], ◌∷◌, ◌++◌, append_assoc, append-nil}
use lib.Dec.{eqb-suc-zero}
use Rattle.schedule.specs.Greedy.{Plan}
use Rattle.greedy_pool.specs.Log.{entries_of, log_of}
use Rattle.greedy_pool.proofs.Saves.{Logged}
use Rattle.saver.specs.declared.Saver.{Saver}
use Rattle.saver.specs.declared.Answer.{Answer}
use Rattle.saver.specs.Calls.{save_of, close_of}
use Rattle.saver.specs.Follows.{Tells}
use Rattle.saver.specs.Runs.{Call, save, close, after, logged, log}
use Rattle.saver.proofs.Tables.{numbers_of}
use Rattle.saver.proofs.Answers.{save_cases, close_cases}

-- an answer that tells a step adds to the log what the step adds
pub tells_logged : (list : List ℕ) (p q : Plan) (r : Answer) → Tells list p q r → Logged list p q → log_of list q ≡ log_of list p ++ logged r
tells_logged list p q r t (inl e) =
    let none : logged r ≡ [] = rw (t.no_cycle e.0).0 in
    rw none (e.1 ∙ sym (append-nil (log_of list p)))
tells_logged list p q r t (inr e) =
    let made : r.cycle.0 ≡ suc p.T = (t.a_cycle e.0).0 ∙ e.0 in
    let one : logged r ≡ entries_of list q.cycles q.T ∷ [] =
    rw (made, eqb-suc-zero p.T, (t.a_cycle e.0).1, numbers_of (entries_of list q.cycles q.T)) in
    rw one e.1

-- a refused call changes nothing and logs nothing
abbrev pub Kept : Saver → Answer → Type 0
Kept s r = (r.saver ≡ s) × (logged r ≡ [])

pub save_kept : (s : Saver) (card : ℕ) → (save_of s card).refusal ≢ 0 → Kept s (save_of s card)
save_kept s card =
    save_cases s card (λ (r : Answer). r.refusal ≢ 0 → Kept s r) (λ a n. (refl, refl)) (λ b n. (refl, refl)) (λ d n. (refl, refl))
    (λ a b d e n. absurd (n refl))
    (λ a b d e n. absurd (n refl))

pub close_kept : (s : Saver) → (close_of s).refusal ≢ 0 → Kept s (close_of s)
close_kept s = close_cases s (λ (r : Answer). r.refusal ≢ 0 → Kept s r) (λ a n. (refl, refl)) (λ a n. absurd (n refl))

-- the record after some calls and then others, and their log
pub after_append : (s : Saver) (a b : List Call) → after s (a ++ b) ≡ after (after s a) b
after_append s [] b = refl
after_append s (save card ∷ a) b = after_append (save_of s card).saver a b
after_append s (close ∷ a) b = after_append (close_of s).saver a b

pub log_append : (s : Saver) (a b : List Call) → log s (a ++ b) ≡ log s a ++ log (after s a) b
log_append s [] b = refl
log_append s (save card ∷ a) b =
    ap (λ l. logged (save_of s card) ++ l) (log_append (save_of s card).saver a b)
    ∙ sym (append_assoc (logged (save_of s card)) (log (save_of s card).saver a) (log (after (save_of s card).saver a) b))
log_append s (close ∷ a) b =
    ap (λ l. logged (close_of s) ++ l) (log_append (close_of s).saver a b)
    ∙ sym (append_assoc (logged (close_of s)) (log (close_of s).saver a) (log (after (close_of s).saver a) b))
