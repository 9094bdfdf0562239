-- How far one frame shifts the length (request 2026-08): of what `plan` answers for two tickets that differ in one frame, and examples.
-- Assumes nothing.
use Rattle.std.specs.Prelude.{ℕ, ◌≡◌, List, [], ◌∷◌, ◌++◌}
use Rattle.header.specs.Limits.{mode_read, mode_save, ReadOrSave}
use Rattle.header.specs.declared.Header.{Header}
use Rattle.ticket.specs.Ticket.{parse}
use Rattle.planner.specs.Cases.{answered_for}
use Rattle.planner.specs.Plan.{plan_of}
use Rattle.std.specs.Prelude.{Ok}

-- "For read and full save, with .. pool .. equal": what two headers have in common. The editions may differ, and so may the numbers of cards.
pub record Alike (h g : Header) : Type 0 where
  pub read_or_save : ReadOrSave h.mode
  pub mode : h.mode ≡ g.mode
  pub pool : h.pool ≡ g.pool

-- `plan` answers both tickets with a plan, the one of text t with room for p cycles and the one of text u with room for q: a T and a U that are
-- so far apart as `Apart` says.
pub record Planning (t u : List ℕ) (p q : ℕ) (Apart : ℕ → ℕ → Type 0) : Type 0 where
  pub T : ℕ
  pub U : ℕ
  pub first : plan_of (parse t) p ≡ Ok (record { 0 = T })
  pub second : plan_of (parse u) q ≡ Ok (record { 0 = U })
  pub apart : Apart T U

-- What is between two lists of frames.
pub data Shift : Type 0 where
  -- the frames before one, its card in the first list and in the second, and the frames behind it
  other_card : List ℕ → ℕ → ℕ → List ℕ → Shift
  -- the frames before one that only the second list has, its card, and the frames behind it
  frame_more : List ℕ → ℕ → List ℕ → Shift
  -- the same for two frames: those before them, the first one's card or cards, those between them, the second one's, and those behind them
  two_other_cards : List ℕ → ℕ → ℕ → List ℕ → ℕ → ℕ → List ℕ → Shift
  two_frames_more : List ℕ → ℕ → List ℕ → ℕ → List ℕ → Shift

abbrev first_list : Shift → List ℕ
first_list (other_card before card other behind) = before ++ (card ∷ behind)
first_list (frame_more before card behind) = before ++ behind
first_list (two_other_cards before card other between card' other' behind) = before ++ (card ∷ (between ++ (card' ∷ behind)))
first_list (two_frames_more before card between card' behind) = before ++ (between ++ behind)

abbrev second_list : Shift → List ℕ
second_list (other_card before card other behind) = before ++ (other ∷ behind)
second_list (frame_more before card behind) = before ++ (card ∷ behind)
second_list (two_other_cards before card other between card' other' behind) = before ++ (other ∷ (between ++ (other' ∷ behind)))
second_list (two_frames_more before card between card' behind) = before ++ (card ∷ (between ++ (card' ∷ behind)))

-- An example: a pool, a shift, and the T that `plan` answers for the first list and for the second.
pub data Example : Type 0 where
  reads : ℕ → Shift → ℕ → ℕ → Example
  saves : ℕ → Shift → ℕ → ℕ → Example

abbrev answers : ℕ → ℕ → Shift → ℕ × ℕ
answers mode m s = (answered_for mode m (first_list s), answered_for mode m (second_list s))

abbrev pub asked : Example → ℕ × ℕ
asked (reads m s T U) = answers mode_read m s
asked (saves m s T U) = answers mode_save m s

abbrev pub expected : Example → ℕ × ℕ
expected (reads m s T U) = (T, U)
expected (saves m s T U) = (T, U)

abbrev pub examples : List Example
examples =
    -- a frame on another card adds one,
    reads 4 (other_card (0 ∷ 1 ∷ 2 ∷ 3 ∷ 0 ∷ []) 1 2 (2 ∷ 3 ∷ [])) 2 3
    ∷ saves 4 (other_card (0 ∷ 1 ∷ 2 ∷ 3 ∷ 0 ∷ []) 1 2 (2 ∷ 3 ∷ [])) 2 3
    -- takes one away,
    ∷ reads 4 (other_card (0 ∷ 1 ∷ 2 ∷ 3 ∷ 0 ∷ []) 2 1 (2 ∷ 3 ∷ [])) 3 2
    ∷ saves 4 (other_card (0 ∷ 1 ∷ 2 ∷ 3 ∷ 0 ∷ []) 2 1 (2 ∷ 3 ∷ [])) 3 2
    -- or moves nothing.
    ∷ reads 4 (other_card (0 ∷ 1 ∷ []) 2 3 (0 ∷ 1 ∷ 2 ∷ [])) 2 2
    ∷ saves 4 (other_card (0 ∷ 1 ∷ []) 2 3 (0 ∷ 1 ∷ 2 ∷ [])) 2 2
    -- A frame more adds one,
    ∷ reads 3 (frame_more (0 ∷ []) 0 (1 ∷ [])) 1 2
    ∷ saves 3 (frame_more (0 ∷ []) 0 (1 ∷ [])) 1 2
    -- or none.
    ∷ reads 3 (frame_more (0 ∷ []) 2 (1 ∷ [])) 1 1
    ∷ saves 3 (frame_more (0 ∷ []) 2 (1 ∷ [])) 1 1
    -- Neither holds of two frames: on other cards they move T by two, both ways, and two frames more add two.
    ∷ reads 3 (two_other_cards (0 ∷ []) 1 0 [] 2 0 []) 1 3
    ∷ saves 3 (two_other_cards (0 ∷ []) 1 0 [] 2 0 []) 1 3
    ∷ reads 3 (two_other_cards (0 ∷ []) 0 1 [] 0 2 []) 3 1
    ∷ saves 3 (two_other_cards (0 ∷ []) 0 1 [] 0 2 []) 3 1
    ∷ reads 3 (two_frames_more (0 ∷ []) 0 [] 0 []) 1 3
    ∷ saves 3 (two_frames_more (0 ∷ []) 0 [] 0 []) 1 3
    ∷ []
