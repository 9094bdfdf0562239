-- The dock (document 01, "The dock"): a model that is given the list, m and a list of steps.
--
-- Words: a frame that is handed over is `delivered`; a card that has read in this cycle is `busy`.
-- Every list of steps is taken, also one that goes on after a step against the rules; positions not below L are against the rules.
-- Assumes nothing.
use Rattle.std.specs.Prelude.{ℕ, zero, suc, ◌-◌, Bool, true, false, not, ◌&&◌, ◌||◌, cond, List, [], ◌∷◌, eqb, leb, ltb, length}
use Rattle.counting.specs.Count.{how_many}
use Rattle.counting.specs.Frames.{card_of}

pub data Step : Type 0 where
  read_frame : ℕ → Step
  drop_frame : ℕ → Step
  end_cycle : Step

-- "It keeps how many frames are handed over (always the first ones of the list), which frames are held, which cards have read in this
-- cycle, how many cycles have ended, and whether the list of steps is broken off."
pub record Dock : Type 0 where
  pub delivered : ℕ
  pub held : ℕ → Bool
  pub busy : List ℕ
  pub ended : ℕ
  pub broken : Bool

-- "At the start it is empty"
abbrev pub empty_dock : Dock
empty_dock = record { delivered = 0; held = λ i. false; busy = []; ended = 0; broken = false }

-- a set of numbers, with i put in (b is true) or taken out
abbrev pub put : (ℕ → Bool) → ℕ → Bool → ℕ → Bool
put set i b j = cond (eqb j i) b (set j)

-- whether a number is in a list
abbrev pub is_in : ℕ → List ℕ → Bool
is_in c [] = false
is_in c (d ∷ l) = eqb c d || is_in c l

abbrev pub is_empty : List ℕ → Bool
is_empty [] = true
is_empty (c ∷ l) = false

-- "while the next frame of the list is held, it is handed over": how many are then delivered, of n delivered and k more in the list
abbrev pub deliver : (ℕ → Bool) → ℕ → ℕ → ℕ
deliver held zero n = n
deliver held (suc k) n = cond (held n) (deliver held k (suc n)) n

abbrev pub break_off : Dock → Dock
break_off d = record { delivered = d.delivered; held = d.held; busy = d.busy; ended = d.ended; broken = true }

module _ (cards : List ℕ) where
  -- how many frames are held
  abbrev pub holding : Dock → ℕ
  holding d = how_many (length cards) d.held

  -- what a step within the rules does
  abbrev pub perform : Step → Dock → Dock
  -- "it uses the card's turn. A frame neither held nor handed over takes a buffer and is held"
  perform (read_frame i) d =
      record {
        delivered = d.delivered;
        held = put d.held i (d.held i || leb d.delivered i);
        busy = card_of cards i ∷ d.busy;
        ended = d.ended;
        broken = false;
      }
  -- "a held frame is no longer held; for any other frame nothing changes"
  perform (drop_frame i) d =
      record { delivered = d.delivered; held = put d.held i false; busy = d.busy; ended = d.ended; broken = false }
  -- "while the next frame of the list is held, it is handed over and its buffer is free; one more cycle has ended, and every card may
  -- read again"
  perform end_cycle d =
      let n : ℕ = deliver d.held (length cards - d.delivered) d.delivered in
      record { delivered = n; held = λ i. d.held i && leb n i; busy = []; ended = suc d.ended; broken = false }

module _ (m : ℕ) (cards : List ℕ) where
  abbrev pub against : Step → Dock → Bool
  -- "against the rules if its card has read in this cycle"
  against (read_frame i) d = leb (length cards) i || is_in (card_of cards i) d.busy
  -- "against the rules after any read in this cycle"
  against (drop_frame i) d = leb (length cards) i || not (is_empty d.busy)
  -- "against the rules if more than m frames are held"
  against end_cycle d = ltb m (holding cards d)

  -- "A step against the rules breaks the list of steps off: beyond that, neither it nor any later step changes anything."
  abbrev pub step : Step → Dock → Dock
  step a d = cond d.broken d (cond (against a d) (break_off d) (perform cards a d))

  -- "Each step finds the dock as the last one left it, and nothing else changes it."
  unfoldable pub run : List Step → Dock → Dock
  run [] d = d
  run (a ∷ steps) d = run steps (step a d)
