-- A text put into a lent buffer, whole or not at all.
-- Assumes nothing.
use Rattle.std.specs.Prelude.{ℕ, ◌≡◌, cond, List, leb, length}
use Rattle.counting.specs.Count.{written}

-- How many bytes a call prints: all, or none where a buffer of so many places has no room for all.
unfoldable pub bytes_in : List ℕ → ℕ → ℕ
bytes_in text places = cond (leb (length text) places) (length text) 0

-- The buffer afterwards: the text over its front, later places as they were; without room, nothing changes.
unfoldable pub buffer_after : List ℕ → List ℕ → List ℕ
buffer_after text before = cond (leb (length text) (length before)) (written text before) before

-- a text is printed over the front of `before` if there is room, and the number of its bytes answered
pub record Put (text before after : List ℕ) (bytes : ℕ) : Type 0 where
  pub answer : bytes ≡ bytes_in text (length before)
  pub buffer : after ≡ buffer_after text before
