-- The empty dock as code.
-- Assumes nothing.
use Prim.Native.Nat.{ℕ, ◌≤◌, ◌<◌}
use mathlib.Core.Path.{refl, sym}
use mathlib.Core.Bool.{false}
use mathlib.Core.List.{List, ◌++◌}
use native.Mathlib.Omega.{arith}
use lib.ListN.{length, length-append, length-replicate, get_or-replicate, get_or-append}
use Rattle.counting.specs.Frames.{card_of}
use Rattle.counting.proofs.Sums.{sum_zero}
use Rattle.schedule.specs.Dock.{empty_dock}
use Rattle.header.specs.Limits.{max_cards, max_frames}
use Rattle.dock.specs.State.{ShowsDock, new_dock}

module _ (m : ℕ) (cards rest : List ℕ) (few : length cards ≤ max_frames) (low : (i : ℕ) → i < length cards → card_of cards i < max_cards) where
  pub empty_shows : ShowsDock m cards empty_dock (new_dock m (length cards)) (cards ++ rest)
  empty_shows =
      record {
        frames = refl;
        pool = refl;
        delivered = refl;
        holds = sym (sum_zero (length cards));
        ended = omega arith;
        broken = refl;
        reading = refl;
        busy = λ c g. get_or-replicate max_cards c false false g;
        flags = length-replicate max_cards false;
        room = omega (arith, length-append cards rest);
        marks = λ i g. omega (arith, get_or-append cards rest 0 i g);
        few = few;
        each_card = low;
        inside = omega arith;
        ahead = λ i g e. omega arith;
      }
