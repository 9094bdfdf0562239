-- A refusal is known by its number, so an answer told in numbers says which refusal it is.
-- Assumes nothing.
use Rattle.std.specs.Option.{is_some}
use Rattle.std.proofs.Common.{arith, Option, Some, None, true, false, ◌<◌, ℕ, ◌≡◌, refl, sym, ap, ◌∙◌, cond, eqb}
use Rattle.refusals.specs.Numbers.{number_of, number_or_0}
use Rattle.refusals.specs.declared.Refusal.{Refusal}
use Rattle.refusals.specs.declared.Refusal.TheVariants.{NoHeader, UnknownEdition, UnknownMode, CardCount, PoolSize, TooManyFrames}
use Rattle.refusals.specs.declared.Refusal.TheVariants.{NoLine, NoSuchCard, BytesFollow, NoRoom, PlanLength, KeepNotChecked}
use Rattle.refusals.specs.declared.Refusal.TheVariants.{SaverFull, NothingWaiting, ClosingBegun, NoSuchPosition, SecondFalls, Unlike}
use Rattle.refusals.specs.declared.Refusal.TheVariants.{JoinedTooLong, HubSetUp, NoSuchCamera}

-- the refusal with a number
of_number : ℕ → Refusal
of_number n =
    (cond (eqb n 1) NoHeader
    (cond (eqb n 2) UnknownEdition
    (cond (eqb n 3) UnknownMode
    (cond (eqb n 4) CardCount
    (cond (eqb n 5) PoolSize
    (cond (eqb n 6) TooManyFrames
    (cond (eqb n 7) NoLine
    (cond (eqb n 8) NoSuchCard
    (cond (eqb n 9) BytesFollow
    (cond (eqb n 10) NoRoom
    (cond (eqb n 11) PlanLength
    (cond (eqb n 12) KeepNotChecked
    (cond (eqb n 13) SaverFull
    (cond (eqb n 14) NothingWaiting
    (cond (eqb n 15) ClosingBegun
    (cond (eqb n 16) NoSuchPosition
    (cond (eqb n 17) SecondFalls
    (cond (eqb n 18) Unlike
    (cond (eqb n 19) JoinedTooLong
    (cond (eqb n 20) HubSetUp
    NoSuchCamera))))))))))))))))))))

there_and_back : (a : Refusal) → of_number (number_of a) ≡ a
unfolding of_number
there_and_back NoHeader = refl
there_and_back UnknownEdition = refl
there_and_back UnknownMode = refl
there_and_back CardCount = refl
there_and_back PoolSize = refl
there_and_back TooManyFrames = refl
there_and_back NoLine = refl
there_and_back NoSuchCard = refl
there_and_back BytesFollow = refl
there_and_back NoRoom = refl
there_and_back PlanLength = refl
there_and_back KeepNotChecked = refl
there_and_back SaverFull = refl
there_and_back NothingWaiting = refl
there_and_back ClosingBegun = refl
there_and_back NoSuchPosition = refl
there_and_back SecondFalls = refl
there_and_back Unlike = refl
there_and_back JoinedTooLong = refl
there_and_back HubSetUp = refl
there_and_back NoSuchCamera = refl

-- Refusals with the same number are the same.
pub same_number : (a b : Refusal) → number_of a ≡ number_of b → a ≡ b
same_number a b e = sym (there_and_back a) ∙ (ap of_number e ∙ there_and_back b)

-- No refusal has the number 0, which stands for none.
pub some_number : (a : Refusal) → 0 < number_of a
some_number NoHeader = omega arith
some_number UnknownEdition = omega arith
some_number UnknownMode = omega arith
some_number CardCount = omega arith
some_number PoolSize = omega arith
some_number TooManyFrames = omega arith
some_number NoLine = omega arith
some_number NoSuchCard = omega arith
some_number BytesFollow = omega arith
some_number NoRoom = omega arith
some_number PlanLength = omega arith
some_number KeepNotChecked = omega arith
some_number SaverFull = omega arith
some_number NothingWaiting = omega arith
some_number ClosingBegun = omega arith
some_number NoSuchPosition = omega arith
some_number SecondFalls = omega arith
some_number Unlike = omega arith
some_number JoinedTooLong = omega arith
some_number HubSetUp = omega arith
some_number NoSuchCamera = omega arith

-- So the number beside an answer is 0 just where it has no refusal.
pub none_is_0 : (o : Option Refusal) → false ≡ is_some o → 0 ≡ number_or_0 o
none_is_0 None e = refl
none_is_0 (Some refusal) e = cc

pub some_not_0 : (o : Option Refusal) → true ≡ is_some o → number_or_0 o ≡ 0 → ⊥
some_not_0 None e z = cc
some_not_0 (Some refusal) e z = omega (arith, z, some_number refusal)
