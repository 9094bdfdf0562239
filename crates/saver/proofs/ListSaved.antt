-- A list saved by a new saver, and closing cycles after it: the record shows greedy_writing's plan, frame by frame and cycle by cycle.
-- Assumes nothing.
use Prim.Native.Nat.{ℕ, zero, suc, ◌+◌, ◌≤◌, ◌<◌}
use mathlib.Core.Path.{◌≡◌, refl, sym, ap, subst, ◌∙◌}
use mathlib.Core.Bool.{false, true≢false}
use mathlib.Core.List.{List, [], ◌∷◌, ◌++◌, append_assoc, append-nil, map}
use native.Mathlib.Omega.{arith}
use native.Mathlib.Numerals.{add-one}
use native.Mathlib.Decide.{dec_lt}
use lib.ListN.{length, get_or, drop, replicate}
use borrow.Author.Tests.{ne_eqb}
use Rattle.counting.specs.Frames.{card_of}
use Rattle.counting.proofs.Parts.{drop_head}
use Rattle.schedule.specs.Greedy.{Plan, in_pool, one_cycle, save_first, flush}
use Rattle.schedule.specs.Greedy as greedy
use Rattle.header.specs.Limits.{max_frames}
use Rattle.greedy_pool.specs.Log.{log_of}
use Rattle.greedy_pool.proofs.Saves.{cycle_logged, save_logged, flush_empty}
use Rattle.saver.specs.declared.Saver.{Saver}
use Rattle.saver.specs.declared.Answer.{Answer}
use Rattle.saver.specs.Calls.{closing_begun, save_of, close_of}
use Rattle.saver.specs.Formed.{Formed}
use Rattle.saver.specs.Follows.{ShowsPlan, Tells}
use Rattle.saver.specs.Runs.{save, close, after, logged, log}
use Rattle.saver.proofs.Answers.{save_cases, close_empty, close_cycles}
use Rattle.saver.proofs.Forming.{formed_save, formed_close, formed_cycle, formed_closing}
use Rattle.saver.proofs.Saving.{save_follows, close_follows}
use Rattle.saver.proofs.Runs.{tells_logged}

module _ (list : List ℕ) where
  -- the log of some more cycles after that of a plan
  more : (p q r : Plan) (a b : List (List ℕ))
      → log_of list q ≡ log_of list p ++ a → log_of list r ≡ log_of list q ++ b → log_of list r ≡ log_of list p ++ (a ++ b)
  more p q r a b d e = e ∙ ap (λ l. l ++ b) d ∙ append_assoc (log_of list p) a b

  -- k closing cycles; those asked of an empty pool are refused
  pub record Closed (k : ℕ) (p : Plan) (s : Saver) : Type 0 where
    pub shows : ShowsPlan list (flush list k p) (after s (replicate k close))
    pub logs : log_of list (flush list k p) ≡ log_of list p ++ log s (replicate k close)

  stays : (s : Saver) → s.waiting < 1 → (close_of s).saver ≡ s
  stays s l = ap (λ (r : Answer). r.saver) (close_empty s l)

  refused_shows : (q : Plan) (k : ℕ) (s : Saver) → s.waiting < 1 → ShowsPlan list q (after s (replicate k close))
      → ShowsPlan list q (after s (replicate (suc k) close))
  refused_shows q k s l v = subst (λ (x : Saver). ShowsPlan list q (after x (replicate k close))) (sym (stays s l)) v

  refused_logs : (k : ℕ) (s : Saver) → s.waiting < 1 → log s (replicate (suc k) close) ≡ log s (replicate k close)
  refused_logs k s l = ap (λ (r : Answer). logged r ++ log r.saver (replicate k close)) (close_empty s l)

  pub closed : (k : ℕ) (p : Plan) (s : Saver) → Formed s → ShowsPlan list p s → Closed k p s
  closed zero p s f v = record { shows = v; logs = sym (append-nil (log_of list p)) }
  closed (suc k) p s f v =
      elim (dec_lt s.waiting 1) [
        | yes l ↦
            (let z : in_pool p.cycles ≡ 0 = omega (arith, v.waiting) in
            let again : Closed k p s = closed k p s f v in
            let same : flush list (suc k) p ≡ flush list k p = flush_empty list (suc k) p z ∙ sym (flush_empty list k p z) in
            record {
              shows = rw same (refused_shows (flush list k p) k s l again.shows);
              logs = rw same (again.logs ∙ ap (λ a. log_of list p ++ a) (sym (refused_logs k s l)));
            })
        | no l ↦
            (let some : 1 ≤ s.waiting = omega arith in
            let next : flush list (suc k) p ≡ flush list k (one_cycle list p) = rw (ne_eqb (in_pool p.cycles) 0 (λ z. omega (arith, v.waiting))) in
            let t : Tells list p (one_cycle list p) (close_of s) = (close_follows s f).follows list p v (rw (close_cycles s some)) in
            let again : Closed k (one_cycle list p) (close_of s).saver = closed k (one_cycle list p) (close_of s).saver (formed_close s f) t.shows in
            record {
              shows = rw next again.shows;
              logs =
                  rw next
                  (more p (one_cycle list p) (flush list k (one_cycle list p)) (logged (close_of s)) (log (close_of s).saver (replicate k close))
                  (tells_logged list p (one_cycle list p) (close_of s) t (cycle_logged list p))
                  again.logs);
            })
      ]

  -- enough closing cycles empty the pool
  fewer : (s : Saver) → Formed s → 1 ≤ s.waiting → (close_of s).saver.waiting < s.waiting
  fewer s f some = rw (close_cycles s some) (formed_cycle (closing_begun s) (formed_closing s f) some).1

  pub closed_empty : (k : ℕ) (s : Saver) → Formed s → s.waiting ≤ k → (after s (replicate k close)).waiting ≡ 0
  closed_empty zero s f h = omega arith
  closed_empty (suc k) s f h =
      elim (dec_lt s.waiting 1) [
        | yes l ↦ ap (λ (x : Saver). (after x (replicate k close)).waiting) (stays s l) ∙ closed_empty k s f (omega arith)
        | no l ↦
            (let some : 1 ≤ s.waiting = omega arith in
            closed_empty k (close_of s).saver (formed_close s f) (omega (arith, fewer s f some)))
      ]

  module _ (m D : ℕ) (few : length list ≤ max_frames) (low : (i : ℕ) → i < length list → card_of list i < D) where
    -- a record with the first n frames of the list saved
    pub record Begun (n : ℕ) (s : Saver) : Type 0 where
      pub formed : Formed s
      pub not_closing : s.closing ≡ false
      pub pool : s.pool ≡ m
      pub cards : s.cards ≡ D
      pub shows : ShowsPlan list (save_first list m n) s
      pub taken : s.taken ≡ n

    -- what the next save keeps
    Keeps : ℕ → Answer → Type 0
    Keeps n r = (r.refusal ≡ 0) × (r.saver.closing ≡ false) × (r.saver.pool ≡ m) × (r.saver.cards ≡ D) × (r.saver.taken ≡ suc n)

    save_keeps : (n : ℕ) (s : Saver) → Begun n s → n < length list → Keeps n (save_of s (card_of list n))
    unfolding Keeps
    save_keeps n s b l =
        save_cases s (card_of list n) (Keeps n)
        (λ a. absurd (true≢false (sym a ∙ b.not_closing)))
        (λ c. absurd (omega (arith, low n l, b.cards)))
        (λ d. absurd (omega (arith, b.taken)))
        (λ a c d e. (refl, b.not_closing, b.pool, b.cards, omega (arith, b.taken)))
        (λ a c d e. (refl, b.not_closing, b.pool, b.cards, omega (arith, b.taken)))

    abbrev plan : ℕ → Plan
    plan n = save_first list m n

    saved_next : (n : ℕ) (s : Saver) → Begun n s → n < length list
        → Begun (suc n) (save_of s (card_of list n)).saver × (log_of list (plan (suc n)) ≡ log_of list (plan n) ++ logged (save_of s (card_of list n)))
    unfolding Keeps
    saved_next n s b l =
        let k : Keeps n (save_of s (card_of list n)) = save_keeps n s b l in
        let t : Tells list (plan n) (plan (suc n)) (save_of s (card_of list n)) =
        subst (λ (x : ℕ). Tells list (plan n) (greedy.save_frame list x (plan n)) (save_of s (card_of list n))) b.pool
        ((save_follows s (card_of list n) b.formed).follows list (plan n) b.shows (ap (card_of list) b.taken) k.0) in (
          record {
            formed = formed_save s (card_of list n) b.formed;
            not_closing = k.1;
            pool = k.2;
            cards = k.3;
            shows = t.shows;
            taken = k.4;
          },
          tells_logged list (plan n) (plan (suc n)) (save_of s (card_of list n)) t (save_logged list m (plan n)),
        )

    -- the frames from position n on
    pub record Saved (n : ℕ) (s : Saver) (rest : List ℕ) : Type 0 where
      pub begun : Begun (length list) (after s (map save rest))
      pub logs : log_of list (plan (length list)) ≡ log_of list (plan n) ++ log s (map save rest)

    pub saved : (rest : List ℕ) (n : ℕ) (s : Saver) → Begun n s → n + length rest ≡ length list → drop n list ≡ rest → Saved n s rest
    saved [] n s b h e =
        let z : n ≡ length list = omega arith in
        record { begun = rw (← z) b; logs = rw (← z) (sym (append-nil (log_of list (plan n)))) }
    saved (x ∷ rest) n s b h e =
        let l : n < length list = omega arith in
        let here : (get_or list n 0 ≡ x) × (drop (n + 1) list ≡ rest) = drop_head list n x rest e in
        let next : Begun (suc n) (save_of s x).saver × (log_of list (plan (suc n)) ≡ log_of list (plan n) ++ logged (save_of s x)) =
        rw here.0 at (saved_next n s b l) in
        let again : Saved (suc n) (save_of s x).saver rest = saved rest (suc n) (save_of s x).saver next.0 (omega arith) (rw add-one at here.1) in
        record {
          begun = again.begun;
          logs = more (plan n) (plan (suc n)) (plan (length list)) (logged (save_of s x)) (log (save_of s x).saver (map save rest)) next.1 again.logs;
        }
