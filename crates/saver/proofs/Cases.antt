-- The saver's cases, computed.
-- Assumes nothing.
use mathlib.Core.Path.{◌≡◌, refl}
use mathlib.Core.List.{[], ◌∷◌, map}
use Rattle.saver.specs.Calls.{new_of, save_of, close_of}
use Rattle.saver.specs.Runs.{save, close}
use Rattle.saver.specs.Cases.{Case, written_in, cases, refusals}

pub cases_hold : map written_in cases ≡ map (λ (c : Case). c.expected) cases
unfolding new_of save_of close_of
cases_hold = refl

-- 14 before any frame, then a frame, a card that is not there, a closing cycle, one too many, and a save after closing: 15 before 8
pub refusals_hold : refusals (new_of 2 2).saver (close ∷ save 0 ∷ save 2 ∷ close ∷ close ∷ save 0 ∷ save 2 ∷ [])
    ≡ 14 ∷ 0 ∷ 8 ∷ 0 ∷ 14 ∷ 15 ∷ 15 ∷ []
unfolding new_of save_of close_of
refusals_hold = refl

-- a saver that was refused takes nothing: 15 comes before 8
pub refused_takes_nothing : refusals (new_of 0 0).saver (save 0 ∷ save 1 ∷ close ∷ []) ≡ 15 ∷ 15 ∷ 14 ∷ []
unfolding new_of save_of close_of
refused_takes_nothing = refl
