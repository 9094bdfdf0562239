-- Calls of the saver one after the other: the record after them, and the log of the cycles that they made.
-- Assumes nothing.
use Rattle.std.specs.Prelude.{ℕ, cond, List, [], ◌∷◌, ◌++◌, map, eqb, replicate}
use Rattle.saver.specs.declared.Saver.{Saver}
use Rattle.saver.specs.declared.Answer.{Answer}
use Rattle.saver.specs.Calls.{numbers, save_of, close_of}

-- a save of a frame on a card, or a closing cycle
pub data Call : Type 0 where
  save : ℕ → Call
  close : Call

abbrev pub call_of : Saver → Call → Answer
call_of s (save card) = save_of s card
call_of s close = close_of s

-- the record after the calls
abbrev pub after : Saver → List Call → Saver
after s [] = s
after s (a ∷ calls) = after (call_of s a).saver calls

-- what the answer's cycle wrote: an entry for each card; nothing if it made no cycle
abbrev pub logged : Answer → List (List ℕ)
logged r = cond (eqb r.cycle.0 0) [] (numbers r.written ∷ [])

-- what the cycles of all calls wrote, in the order of the calls
abbrev pub log : Saver → List Call → List (List ℕ)
log s [] = []
log s (a ∷ calls) = logged (call_of s a) ++ log (call_of s a).saver calls

-- the cards of the frames that were saved: a refused save saves none
abbrev pub accepted : Saver → List Call → List ℕ
accepted s [] = []
accepted s (save card ∷ calls) = cond (eqb (save_of s card).refusal 0) (card ∷ []) [] ++ accepted (save_of s card).saver calls
accepted s (close ∷ calls) = accepted (close_of s).saver calls

-- a list saved, and then k closing cycles
abbrev pub saved_and_closed : List ℕ → ℕ → List Call
saved_and_closed list k = map save list ++ replicate k close
