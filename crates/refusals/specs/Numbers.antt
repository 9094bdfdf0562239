-- The number of each refusal (document 01, "Grounds for turning a ticket or call down", and the requests that add to it), and the answer of a call
-- told in these numbers, as the papers tell it.
-- Assumes nothing.
use Rattle.std.specs.Prelude.{ℕ, Option, None, Some, Result, Ok, Err}
use Rattle.refusals.specs.declared.Refusal.{Refusal}
use Rattle.refusals.specs.declared.Refusal.TheVariants.{NoHeader, UnknownEdition, UnknownMode, CardCount, PoolSize, TooManyFrames}
use Rattle.refusals.specs.declared.Refusal.TheVariants.{NoLine, NoSuchCard, BytesFollow, NoRoom, PlanLength, KeepNotChecked}
use Rattle.refusals.specs.declared.Refusal.TheVariants.{SaverFull, NothingWaiting, ClosingBegun, NoSuchPosition, SecondFalls, Unlike}
use Rattle.refusals.specs.declared.Refusal.TheVariants.{JoinedTooLong, HubSetUp, NoSuchCamera}

abbrev pub number_of : Refusal → ℕ
number_of NoHeader = 1
number_of UnknownEdition = 2
number_of UnknownMode = 3
number_of CardCount = 4
number_of PoolSize = 5
number_of TooManyFrames = 6
number_of NoLine = 7
number_of NoSuchCard = 8
number_of BytesFollow = 9
number_of NoRoom = 10
number_of PlanLength = 11
number_of KeepNotChecked = 12
number_of SaverFull = 13
number_of NothingWaiting = 14
number_of ClosingBegun = 15
number_of NoSuchPosition = 16
number_of SecondFalls = 17
number_of Unlike = 18
number_of JoinedTooLong = 19
number_of HubSetUp = 20
number_of NoSuchCamera = 21

-- a call's answer, with the number of its refusal in the refusal's place
abbrev pub told : {A : Type 0} → Result A Refusal → Result A ℕ
told (Ok answer) = Ok answer
told (Err refusal) = Err (number_of refusal)

-- the number of a call's refusal, 0 for none
abbrev pub number_in : {A : Type 0} → Result A Refusal → ℕ
number_in (Ok answer) = 0
number_in (Err refusal) = number_of refusal

-- the number of a refusal, 0 where there is none
abbrev pub number_or_0 : Option Refusal → ℕ
number_or_0 None = 0
number_or_0 (Some refusal) = number_of refusal
