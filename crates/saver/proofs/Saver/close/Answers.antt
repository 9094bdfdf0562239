-- What the check leaves to say of `Saver::close`.
use mathlib.Core.Path.{sym, ◌∙◌}
use native.Mathlib.Omega.{arith}
use Rattle.saver.proofs.Answers.{close_empty, close_cycles}
use Rattle.saver.proofs.Forming.{formed_closing, given_formed}
use Rattle.saver.proofs.Saving.{is_closed}
use Rattle.saver.proofs.Saver.close.Goals as goal

pub returns-then-self-lt1-clause-answer : goal.returns-then-self-lt1-clause-answer
returns-then-self-lt1-clause-answer c =
    c.refused.ensures ∙ sym (close_empty _ (omega arith))

pub one_cycle-requires : goal.one_cycle-requires
one_cycle-requires c = formed_closing _ (given_formed c.requires)

pub returns : goal.returns
returns c =
    let clauses = is_closed c.requires (c.one_cycle.ensures ∙ sym (close_cycles _ (omega arith))) in
    record {
      answer = clauses.0;
      given = clauses.1.0;
      greedy = clauses.1.1;
    }
