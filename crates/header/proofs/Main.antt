-- The public theorem about headers: the pool's limit in request 2026-07's own numbers. A limit that is changed in specs/Limits.antt and in
-- src/limits.rt alike is refused here.
-- Assumes nothing.
use Prim.Native.Nat.{◌≤◌, ◌<◌}
use mathlib.Core.Path.{◌≡◌}
use mathlib.Core.Logic.{inr}
use Rattle.header.specs.declared.Header.{Header}
use Rattle.std.specs.Prelude.{Ok, Err}
use Rattle.header.specs.Heading.{within_limits}
use Rattle.header.specs.Limits.{mode_save_and_keep, max_cards, max_frames, Within}
use Rattle.header.proofs.Judged as judged

-- "192 passes and 193 gives 5": of a header whose mode and cards pass.
module _ (h : Header) (mode : h.mode ≤ mode_save_and_keep) (cards : Within max_cards h.cards) where
  pub pool_passes : Within 192 h.pool → h.frames ≤ max_frames → within_limits h ≡ Ok h
  pool_passes = judged.judge_accepts h mode cards

  pub pool_over : 192 < h.pool → within_limits h ≡ Err 5
  pool_over l = judged.judge_5 h mode cards (inr l)
