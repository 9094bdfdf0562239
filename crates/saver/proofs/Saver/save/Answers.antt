-- What the check leaves to say of `Saver::save`.
use mathlib.Core.Path.{sym, ap, ◌∙◌}
use native.Mathlib.Omega.{arith}
use Rattle.saver.specs.Calls.{quiet, then_enters}
use Rattle.saver.proofs.Answers.{save_closed, save_no_card, save_all_taken, save_enters, save_cycles}
use Rattle.saver.proofs.Forming.{given_formed}
use Rattle.saver.proofs.Saving.{is_saved, room_after}
use Rattle.saver.proofs.Saver.save.Goals as goal

pub returns-then-self-clause-answer : goal.returns-then-self-clause-answer
returns-then-self-clause-answer c =
    c.refused.ensures ∙ sym (save_closed _ _ c.if-self.true)

pub returns-then-self-card-clause-answer : goal.returns-then-self-card-clause-answer
returns-then-self-card-clause-answer c =
    c.refused-then-self-card.ensures ∙ sym (save_no_card _ _ c.if-self.false (omega arith))

pub returns-then-self-ge-MAX_FRAMES-clause-answer : goal.returns-then-self-ge-MAX_FRAMES-clause-answer
returns-then-self-ge-MAX_FRAMES-clause-answer c =
    c.refused-then-self-ge-MAX_FRAMES.ensures ∙ sym (save_all_taken _ _ c.if-self.false (omega arith) (omega arith))

pub enter-requires : goal.enter-requires
enter-requires c =
    record { place = omega (arith, (given_formed c.requires).small_pool); number = omega arith }

pub returns-then-self-2 : goal.returns-then-self-2
returns-then-self-2 c =
    let clauses = is_saved _ c.requires
    (c.quiet.ensures ∙ ap quiet c.enter.ensures ∙ sym (save_enters _ _ c.if-self.false (omega arith) (omega arith) (omega arith))) in
    record {
      answer = clauses.0;
      given = clauses.1.0;
      greedy = clauses.1.1;
    }

pub one_cycle-requires : goal.one_cycle-requires
one_cycle-requires c = given_formed c.requires

pub then_enter-requires : goal.then_enter-requires
then_enter-requires c = room_after c.requires (omega arith) (omega arith) c.one_cycle.ensures

pub returns : goal.returns
returns c =
    let clauses = is_saved _ c.requires
    (c.then_enter.ensures
    ∙ ap (λ r. then_enters r c.args.card) c.one_cycle.ensures
    ∙ sym (save_cycles _ _ c.if-self.false (omega arith) (omega arith) (omega arith))) in
    record {
      answer = clauses.0;
      given = clauses.1.0;
      greedy = clauses.1.1;
    }
