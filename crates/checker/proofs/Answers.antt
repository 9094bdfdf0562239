-- What the parts of `check` found, as the answer to the ticket and the plan.
-- Assumes nothing.
use Prim.Native.Nat.{ℕ}
use mathlib.Core.Path.{◌≡◌, refl, sym, ap, ◌∙◌}
use mathlib.Core.Logic.{◌≢◌}
use mathlib.Core.List.{List}
use native.Mathlib.Omega.{arith}
use lib.Dec.{eqb}
use lib.ListN.{length}
use borrow.Author.Tests.{eq-eqb, ne_eqb}
use Rattle.header.specs.Limits.{mode_save, mode_save_and_keep}
use Rattle.header.specs.declared.Header.{Header}
use Rattle.ticket.specs.Ticket.{accepted, refused}
use Rattle.ticket.specs.Grounds.{Fits}
use Rattle.checker.specs.Check.{answer_of, verdict_on, check_of}
use Rattle.plan_faults.specs.Faults.{Checking}
use Rattle.checker.specs.declared.Verdict.{Verdict}
use Rattle.std.specs.Prelude.{Ok, Err}

-- a list that is read, and a plan
module _ (h : Header) (cards cycles : List ℕ) where
  pub keep_refused : h.mode ≡ mode_save_and_keep → Err 12 ≡ check_of (accepted h cards) cycles
  unfolding check_of
  keep_refused e = rw (eq-eqb h.mode mode_save_and_keep e)

  module _ (f : Fits h cards) (n : h.mode ≢ mode_save_and_keep) where
    pub length_refused : length cycles ≢ h.frames → Err 11 ≡ check_of (accepted h cards) cycles
    unfolding check_of
    length_refused l =
        let k : length cycles ≢ length cards = λ e. l (e ∙ f.frames) in
        rw (ne_eqb h.mode mode_save_and_keep n, ne_eqb (length cycles) (length cards) k)

    module _ (l : length cycles ≡ h.frames) where
      pub checking : Checking cards cycles
      checking =
          record {
            same_length = l ∙ sym f.frames;
            few = omega (arith, f.frames, f.few);
            each_card = λ i k. omega (arith, f.each_card i k, f.card_range.1);
          }

      pub checked : (r : Verdict) → r ≡ answer_of (verdict_on (eqb h.mode mode_save) h.pool cards cycles) → Ok r ≡ check_of (accepted h cards) cycles
      unfolding check_of
      checked r e = rw (ne_eqb h.mode mode_save_and_keep n, eq-eqb (length cycles) (length cards) (l ∙ sym f.frames)) (ap (λ (v : Verdict). Ok v) e)

-- a ticket that is refused
pub ticket_refused : (k : ℕ) (cycles : List ℕ) → Err k ≡ check_of (refused k) cycles
unfolding check_of
ticket_refused k cycles = refl
