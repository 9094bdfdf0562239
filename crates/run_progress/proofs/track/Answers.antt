-- What the check leaves to say of `track`.
use Rattle.std.proofs.Common.{◌∙◌}
use Rattle.dock.proofs.Driving.{dock_told}
use Rattle.run_progress.proofs.Tracked.{noted_tracked}
use Rattle.run_progress.proofs.track.Goals as goal

pub returns : goal.returns
returns c =
    let drove = noted_tracked (c.unwrap_or-dock.ensures ∙ dock_told c.args.p.dock c.drive.result) c.drive.ensures.follows in
    rw (c.or.ensures, c.then_some.ensures, c.max.ensures, c.held_at_end.ensures) drove
