-- The numbers of each case of the answer to a header (document 01, "Grounds for turning a ticket or call down").
-- Assumes nothing.
use Rattle.std.specs.Prelude.{ℕ}
use Rattle.header.specs.declared.Header.{Header}
use Rattle.std.specs.Prelude.{Result, Ok, Err}

-- The refusal's number, 0 for none; and what stands in the header, all 0 beside a refusal.
pub record Numbers : Type 0 where
  pub refusal : ℕ
  pub edition : ℕ
  pub mode : ℕ
  pub cards : ℕ
  pub pool : ℕ
  pub frames : ℕ

abbrev pub accepted_as : Header → Numbers
accepted_as h = record { refusal = 0; edition = h.edition; mode = h.mode; cards = h.cards; pool = h.pool; frames = h.frames }

-- "Beside a refusal's number, other numbers of the answer are 0"
abbrev pub refused_by : ℕ → Numbers
refused_by k = record { refusal = k; edition = 0; mode = 0; cards = 0; pool = 0; frames = 0 }

abbrev pub numbers_of : Result Header ℕ → Numbers
numbers_of (Ok h) = accepted_as h
numbers_of (Err k) = refused_by k
