-- What the check leaves to say of `Saver::new`.
use native.Mathlib.Omega.{arith}
use Rattle.saver.proofs.Opening.{no_card, many_cards, no_pool, large_pool, new_saver_is}
use Rattle.saver.proofs.Saver.new.Goals as goal

pub returns-then-cards-lt1 : goal.returns-then-cards-lt1
returns-then-cards-lt1 c =
    let clauses = no_card _ _ c.no_saver.ensures (omega arith) in
    record {
      answer = clauses.0;
      given = clauses.1;
    }

pub returns-then-cards-gt-MAX_CARDS : goal.returns-then-cards-gt-MAX_CARDS
returns-then-cards-gt-MAX_CARDS c =
    let clauses = many_cards _ _ c.no_saver-then-cards-gt-MAX_CARDS.ensures (omega arith) in
    record {
      answer = clauses.0;
      given = clauses.1;
    }

pub returns-then-pool-lt1 : goal.returns-then-pool-lt1
returns-then-pool-lt1 c =
    let clauses = no_pool _ _ (omega arith) (omega arith) c.no_saver-then-pool-lt1.ensures (omega arith) in
    record {
      answer = clauses.0;
      given = clauses.1;
    }

pub returns-then-pool-gt-MAX_POOL : goal.returns-then-pool-gt-MAX_POOL
returns-then-pool-gt-MAX_POOL c =
    let clauses = large_pool _ _ (omega arith) (omega arith) c.no_saver-then-pool-gt-MAX_POOL.ensures (omega arith) in
    record {
      answer = clauses.0;
      given = clauses.1;
    }

pub returns : goal.returns
returns c =
    let clauses = new_saver_is _ _ (omega arith) (omega arith) c.empty.ensures c.quiet.ensures (omega arith) (omega arith) in
    record {
      answer = clauses.0;
      given = clauses.1;
    }
