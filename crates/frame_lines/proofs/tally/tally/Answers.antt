-- What the check leaves to say of `tally::tally`.
use native.Mathlib.Omega.{arith}
use Rattle.std.proofs.Common.{◌≡◌, ◌<◌, ◌∙◌}
use Rattle.std.proofs.lemmas.List.{get_or-take, length-take-le}
use Rattle.counting.proofs.Counted.{count_small, count_next}
use Rattle.counting.specs.Frames.{card_of}
use Rattle.header.specs.Limits.{max_cards}
use Rattle.frame_lines.proofs.tally.tally.Goals as goal

-- the card at a place before the end of the part that is counted
module _ (c : goal.After-from-in-loop-c) where
  before : c.loop-c.c-index < c.args.n
  before =
      let long = length-take-le c.from.result c.args.card.now (omega (arith, c.from.ensures, c.requires.0)) in
      omega (arith, long, c.loop-c-test.true, c.from.ensures)

  card-is : c.from-in-loop-c.result ≡ card_of c.args.card.now c.loop-c.c-index
  card-is =
      c.from-in-loop-c.ensures ∙ get_or-take c.from.result c.args.card.now c.loop-c.c-index 0 (omega (arith, before, c.from.ensures))

pub overflow_add-count : goal.overflow_add-count
overflow_add-count c =
    let l = c.loop-c in
    let small = count_small max_cards c.args.card.now l.count l.c-index l.invariant (c.requires.2 l.c-index (before c)) _ (card-is c) in
    omega (arith, small, before c, c.requires.1)

pub loop-c-preserved : goal.loop-c-preserved
loop-c-preserved c =
    let l = c.loop-c in
    count_next max_cards c.args.card.now l.count l.c-index l.invariant (c.requires.2 l.c-index (before c)) _ (card-is c)
