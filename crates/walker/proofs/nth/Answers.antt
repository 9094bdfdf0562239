-- What the check leaves to say of `nth`: the walk's line is the reader's line there, and stands where the reader's stands.
use Rattle.std.proofs.Common.{ap, ◌∙◌}
use Rattle.ticket.specs.Part.{address}
use Rattle.walker.specs.Walk.{line_at, place_at, gives, gives_from}
use Rattle.walker.proofs.Same.{same_line, same_place}
use Rattle.walker.proofs.nth.Goals as goal

pub returns : goal.returns
returns c =
    let t = c.args.ticket in
    let p = c.args.p.0 in
    let w = c.start.result in (
      c.step.ensures.0 ∙ ap gives c.at.ensures ∙ ap (λ b. line_at b p) c.start.ensures.0.bytes ∙ same_line t.now p,
      c.step.ensures.1
          ∙ ap (λ x. address x.ticket.ref_ptr (gives_from x)) c.at.ensures
          ∙ ap (λ q. address q (place_at w.ticket.now p)) c.start.ensures.1
          ∙ ap (λ b. address t.ref_ptr (place_at b p)) c.start.ensures.0.bytes
          ∙ ap (address t.ref_ptr) (same_place t.now p),
    )
