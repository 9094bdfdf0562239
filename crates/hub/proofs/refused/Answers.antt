-- What the check leaves to say of `refused`.
use native.Mathlib.Omega.{arith}
use Rattle.hub.specs.Grounds.{row20, row6}
use Rattle.hub.proofs.Refusals.{known_from, not_known, camera_row, room_row, no_row, number_says}
use Rattle.hub.proofs.refused.Goals as goal

pub returns-then-count-lt1 : goal.returns-then-count-lt1
returns-then-count-lt1 c = number_says _ _ _ _ (row20 (λ k. omega (arith, k.count)))

pub returns-then-count-gt-CAMERAS : goal.returns-then-count-gt-CAMERAS
returns-then-count-gt-CAMERAS c = number_says _ _ _ _ (row20 (λ k. omega (arith, k.count)))

pub returns-then-from-ge-SIZE : goal.returns-then-from-ge-SIZE
returns-then-from-ge-SIZE c = number_says _ _ _ _ (row20 (not_known _ (omega arith)))

pub returns-then-frames-gt-FRAMES : goal.returns-then-frames-gt-FRAMES
returns-then-frames-gt-FRAMES c = number_says _ _ _ _ (row6 (known_from _ (omega arith) (omega arith) (omega arith)) (omega arith))

pub returns-then-count-from : goal.returns-then-count-from
returns-then-count-from c = number_says _ _ _ _ (camera_row _ _ _ (omega arith) (omega arith) (omega arith) (omega arith) (omega arith))

pub returns-then-places-frames : goal.returns-then-places-frames
returns-then-places-frames c = number_says _ _ _ _ (room_row _ _ _ (omega arith) (omega arith) (omega arith) (omega arith) (omega arith) (omega arith))

pub returns : goal.returns
returns c = number_says _ _ _ _ (no_row _ _ _ (omega arith) (omega arith) (omega arith) (omega arith) (omega arith) (omega arith))
