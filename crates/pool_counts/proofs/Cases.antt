-- The table of specs/Cases.antt, proved by computing.
-- Assumes nothing.
use mathlib.Core.Path.{◌≡◌, refl}
use mathlib.Core.List.{map}
use Rattle.pool_counts.specs.Cases.{answered, expected, cases}

pub cases_hold : map answered cases ≡ map expected cases
cases_hold = refl
