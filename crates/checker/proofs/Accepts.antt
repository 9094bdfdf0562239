-- The checker accepts a plan exactly when it is a correct schedule, names the lowest position at fault, and accepts our own plans.
-- Assumes nothing.
use Prim.Native.Nat.{ℕ, ◌≤◌}
use mathlib.Core.Path.{◌≡◌, refl, sym, ap, ◌∙◌}
use mathlib.Core.Logic.{◌≢◌}
use mathlib.Core.Bool.{cond}
use mathlib.Core.List.{List}
use native.Mathlib.Omega.{arith}
use native.Mathlib.Decide.{ℕ_discrete}
use lib.Dec.{eqb}
use lib.ListN.{length}
use borrow.Author.Tests.{eq-eqb, ne_eqb}
use Rattle.schedule.specs.Schedule.{cycles_in, o_backlog, i_backlog, Proper, Correct, CorrectRead}
use Rattle.schedule.specs.Greedy.{greedy_writing, lazy_prefetching}
use Rattle.schedule.specs.Drive.{buffers_needed}
use Rattle.schedule.specs.Verdict.{Fault, valid, faulty, verdict_on_read, verdict_on_save, Named}
use Rattle.schedule.specs.Verdict as theory
use Rattle.schedule.proofs.Main.{valid_read, read_valid, valid_save, save_valid, read_named, save_named}
use Rattle.schedule.proofs.Main.{own_peak, own_save_valid, read_correct, read_length, save_correct, correct_within_peak}
use Rattle.counting.specs.declared.Cycle.{Cycle}
use Rattle.header.specs.Limits.{mode_read, mode_save}
use Rattle.header.specs.declared.Header.{Header}
use Rattle.ticket.specs.Ticket.{accepted, parse}
use Rattle.ticket.proofs.Main.{accepted_fits}
use Rattle.checker.specs.Check.{check_of}
use Rattle.checker.specs.Numbers.{valid_number, fault_number, numbers_of}
use Rattle.checker.specs.Exact.{Exact}
use Rattle.checker.specs.declared.Verdict.{Verdict}
use Rattle.checker.specs.declared.Verdict.TheVariants.{Valid}
use Rattle.std.specs.Prelude.{Result, Ok, Err}
use Rattle.checker.proofs.Numbers.{to_answer, verdict_number, position_number, peak_number, no_peak, from_two, was_valid, was_fault}

-- the answer to a plan of an accepted ticket, where the theory's verdict on it is v: 11, or v
abbrev to_plan : List ℕ → List ℕ → theory.Verdict → Result Verdict ℕ
to_plan cards cycles v = cond (eqb (length cycles) (length cards)) (to_answer v) (Err 11)

module _ (cards cycles : List ℕ) (v : theory.Verdict) where
  as_long : length cycles ≡ length cards → to_plan cards cycles v ≡ to_answer v
  as_long l = rw (eq-eqb (length cycles) (length cards) l)

  not_as_long : length cycles ≢ length cards → to_plan cards cycles v ≡ Err 11
  not_as_long l = rw (ne_eqb (length cycles) (length cards) l)

-- which verdict that is
module _ (h : Header) (cards cycles : List ℕ) where
  answer_read : h.mode ≡ mode_read → check_of (accepted h cards) cycles ≡ to_plan cards cycles (verdict_on_read h.pool cards cycles)
  unfolding check_of
  answer_read q = rw q

  answer_save : h.mode ≡ mode_save → check_of (accepted h cards) cycles ≡ to_plan cards cycles (verdict_on_save h.pool cards cycles)
  unfolding check_of
  answer_save q = rw q

-- what the numbers of the answer say, for a read as for a save
module _ (backlog : List ℕ → ℕ → ℕ) (m : ℕ) (cards cycles : List ℕ) (v : theory.Verdict) (r : Result Verdict ℕ) (r-is : r ≡ to_plan cards cycles v) where
  -- an answer with a verdict's number is the verdict on a plan of L cycles
  judged : 1 ≤ verdict_number r → (length cycles ≡ length cards) × (r ≡ to_answer v)
  judged n =
      elim (ℕ_discrete (length cycles) (length cards)) [
        | yes l ↦ (l, r-is ∙ as_long cards cycles v l)
        | no l ↦ absurd (omega (arith, n, ap verdict_number (r-is ∙ not_as_long cards cycles v l)))
      ]

  exact_plan :
      (length cycles ≡ length cards → (T p : ℕ) → v ≡ valid T p → Correct backlog m cards cycles)
      → {T p : ℕ} → (Correct backlog m cards cycles → v ≡ valid T p)
      → (verdict_number r ≡ valid_number → Correct backlog m cards cycles) × (Correct backlog m cards cycles → verdict_number r ≡ valid_number)
  exact_plan sound whole = (
    λ e.
        let j = judged (omega (arith, e)) in
        let w = was_valid v (sym (ap verdict_number j.1) ∙ e) in
        sound j.0 w.0 w.1 w.2,
    λ ok. ap verdict_number (r-is ∙ as_long cards cycles v ok.proper.one_each ∙ ap to_answer (whole ok)),
  )

  exact_fault :
      ((i : ℕ) (f : Fault) → v ≡ faulty i f → Named backlog m cards cycles i f)
      → (f : Fault) → verdict_number r ≡ fault_number f → Named backlog m cards cycles (position_number r) f
  exact_fault named f e =
      let j = judged (omega (arith, e, from_two f)) in
      rw j.1 (named (position_number (to_answer v)) f (was_fault v f (sym (ap verdict_number j.1) ∙ e)))

-- a call's answer to a read ticket, and to a save ticket
module _ (t cycles : List ℕ) (r : Result Verdict ℕ) (e : r ≡ check_of (parse t) cycles) (h : Header) (cards : List ℕ) (a : parse t ≡ accepted h cards) where
  of_read : h.mode ≡ mode_read → r ≡ to_plan cards cycles (verdict_on_read h.pool cards cycles)
  of_read q = e ∙ ap (λ p. check_of p cycles) a ∙ answer_read h cards cycles q

  of_save : h.mode ≡ mode_save → r ≡ to_plan cards cycles (verdict_on_save h.pool cards cycles)
  of_save q = e ∙ ap (λ p. check_of p cycles) a ∙ answer_save h cards cycles q

  -- a read plan: where it is valid, and what the peak tells
  module _ (q : h.mode ≡ mode_read) where
    pub read_exact :
        (verdict_number r ≡ valid_number → CorrectRead h.pool cards cycles) × (CorrectRead h.pool cards cycles → verdict_number r ≡ valid_number)
    read_exact = exact_plan i_backlog h.pool cards cycles _ r (of_read q) (valid_read h.pool cards cycles) (read_valid h.pool cards cycles)

    pub valid_whole : CorrectRead h.pool cards cycles → r ≡ Ok (Valid (record { 0 = cycles_in cycles }) (buffers_needed cards cycles))
    valid_whole ok =
        of_read q ∙ as_long cards cycles (verdict_on_read h.pool cards cycles) ok.proper.one_each
        ∙ ap to_answer (read_valid h.pool cards cycles ok)

    peak_decides :
        Proper cards cycles
        → (verdict_number r ≡ valid_number → buffers_needed cards cycles ≤ h.pool) × (buffers_needed cards cycles ≤ h.pool → verdict_number r ≡ valid_number)
    peak_decides ok =
        let within = correct_within_peak cards cycles ok h.pool in
        (λ v. within.0 (read_exact.0 v), λ l. read_exact.1 (within.1 l))

    module _ (v : verdict_number r ≡ valid_number) where
      peak_is : peak_number r ≡ buffers_needed cards cycles
      peak_is = ap peak_number (valid_whole (read_exact.0 v))

      peak_smallest : (m : ℕ) → (CorrectRead m cards cycles → peak_number r ≤ m) × (peak_number r ≤ m → CorrectRead m cards cycles)
      peak_smallest m = rw peak_is (correct_within_peak cards cycles (read_exact.0 v).proper m)

pub exact : (t cycles : List ℕ) (r : Result Verdict ℕ) → r ≡ check_of (parse t) cycles → Exact t cycles (verdict_number r) (position_number r) (peak_number r)
exact t cycles r e =
    record {
      read_plan = read_exact t cycles r e;
      read_fault = λ h cards a q. exact_fault i_backlog h.pool cards cycles _ r (of_read t cycles r e h cards a q) (read_named h.pool cards cycles);
      save_plan = λ h cards a q.
          exact_plan o_backlog h.pool cards cycles _ r (of_save t cycles r e h cards a q)
          (valid_save h.pool cards cycles)
          (save_valid h.pool cards cycles);
      save_fault = λ h cards a q. exact_fault o_backlog h.pool cards cycles _ r (of_save t cycles r e h cards a q) (save_named h.pool cards cycles);
      read_peak = peak_decides t cycles r e;
      peak_answered = peak_is t cycles r e;
      smallest_pool = peak_smallest t cycles r e;
      no_peak = no_peak r;
    }

-- the three clauses of `check`
pub contract :
    (t cycles : List ℕ) (r : Result Verdict ℕ) → r ≡ check_of (parse t) cycles
    → (r ≡ check_of (parse t) cycles)
    × ((numbers_of r ≡ numbers_of (check_of (parse t) cycles)) × Exact t cycles (verdict_number r) (position_number r) (peak_number r))
contract t cycles r e = (e, (ap numbers_of e, exact t cycles r e))

module _ (t : List ℕ) (h : Header) (cards : List ℕ) (e : parse t ≡ accepted h cards) where
  pub own_read :
      h.mode ≡ mode_read
      → check_of (parse t) (lazy_prefetching h.pool cards).cycles
      ≡ Ok (Valid (record { 0 = (lazy_prefetching h.pool cards).T }) (buffers_needed cards (lazy_prefetching h.pool cards).cycles))
  own_read q =
      let pool = (accepted_fits t h cards e).pool.0 in
      let cycles : List ℕ = (lazy_prefetching h.pool cards).cycles in
      valid_whole t cycles _ refl h cards e q (read_correct h.pool cards pool)
      ∙ ap (λ T. Ok (Valid (record { 0 = T }) (buffers_needed cards cycles))) (read_length h.pool cards pool)

  pub own_read_peak : h.mode ≡ mode_read → peak_number (check_of (parse t) (lazy_prefetching h.pool cards).cycles) ≤ h.pool
  own_read_peak q = rw (own_read q) (own_peak h.pool cards (accepted_fits t h cards e).pool.0)

  pub own_save :
      h.mode ≡ mode_save → check_of (parse t) (greedy_writing h.pool cards).cycles ≡ Ok (Valid (record { 0 = (greedy_writing h.pool cards).T }) 0)
  own_save q =
      let pool = (accepted_fits t h cards e).pool.0 in
      let cycles : List ℕ = (greedy_writing h.pool cards).cycles in
      ap (λ p. check_of p cycles) e ∙ answer_save h cards cycles q
      ∙ as_long cards cycles (verdict_on_save h.pool cards cycles) (save_correct h.pool cards pool).proper.one_each
      ∙ ap to_answer (own_save_valid h.pool cards pool)

-- a read plan that is valid for one ticket, given with another that has the same list
module _ (t t' : List ℕ) (h h' : Header) (cards cycles : List ℕ) (T : Cycle) (p : ℕ) (a : parse t ≡ accepted h cards)
    (a' : parse t' ≡ accepted h' cards) (q : h.mode ≡ mode_read) (q' : h'.mode ≡ mode_read) (valid-here : check_of (parse t) cycles ≡ Ok (Valid T p)) where
  correct_here : CorrectRead h.pool cards cycles
  correct_here = (read_exact t cycles _ refl h cards a q).0 (ap verdict_number valid-here)

  whole_here : check_of (parse t) cycles ≡ Ok (Valid (record { 0 = cycles_in cycles }) (buffers_needed cards cycles))
  whole_here = valid_whole t cycles _ refl h cards a q correct_here

  within : (CorrectRead h'.pool cards cycles → p ≤ h'.pool) × (p ≤ h'.pool → CorrectRead h'.pool cards cycles)
  within =
      let p-is : p ≡ buffers_needed cards cycles = ap peak_number (sym valid-here ∙ whole_here) in
      rw p-is (correct_within_peak cards cycles correct_here.proper h'.pool)

  pub valid_there : p ≤ h'.pool → check_of (parse t') cycles ≡ Ok (Valid T p)
  valid_there l = valid_whole t' cycles _ refl h' cards a' q' (within.1 l) ∙ sym whole_here ∙ valid-here

  pub peak_there : (T' : Cycle) (p' : ℕ) → check_of (parse t') cycles ≡ Ok (Valid T' p') → p ≤ h'.pool
  peak_there T' p' v = within.0 ((read_exact t' cycles _ refl h' cards a' q').0 (ap verdict_number v))
