-- Laws of the header: refusals 1 to 6, and an accepted header.
-- Assumes nothing.
use Prim.Native.Nat.{ℕ, ◌≤◌, ◌<◌}
use mathlib.Core.Path.{◌≡◌, ◌∙◌}
use mathlib.Core.Bool.{true, false, ◌&&◌}
use mathlib.Core.List.{List}
use mathlib.Core.Logic.{◌⊎◌, inl, inr}
use native.Mathlib.Omega.{arith}
use native.Mathlib.Decide.{dec_le}
use lib.Dec.{leb}
use borrow.Author.Tests.{le-leb, lt-leb}
use Rattle.header.specs.declared.Header.{Header}
use Rattle.std.specs.Prelude.{Result, Ok, Err}
use Rattle.text.specs.Text.{number, is_line}
use Rattle.header.specs.Heading.{header_digits, header_of, edition_of, within_limits, header_answer, heading}
use Rattle.header.specs.Editions.{Known}
use Rattle.header.specs.Limits.{mode_save_and_keep, max_cards, max_pool, max_frames, Within, Outside}
use Rattle.header.proofs.Widths.{known_is, not_known}

-- a range's test, and its two cases
pub within : (n x : ℕ) → Within n x → (leb 1 x && leb x n) ≡ true
within n x w = rw (le-leb 1 x w.0, le-leb x n w.1)

pub outside : (n x : ℕ) → Outside n x → (leb 1 x && leb x n) ≡ false
outside n x (inl l) = rw (lt-leb 1 x l)
outside n x (inr l) = rw (le-leb 1 x (omega (arith, l)), lt-leb x n l)

pub range : (n x : ℕ) → Within n x ⊎ Outside n x
range n x =
    elim (dec_le 1 x) [
      | no l ↦ inr (inl (omega arith))
      | yes l ↦ elim (dec_le x n) [ yes k ↦ inl (l, k) | no k ↦ inr (inr (omega arith)) ]
    ]

module _ (h : Header) where
  pub judge_3 : mode_save_and_keep < h.mode → within_limits h ≡ Err 3
  unfolding within_limits
  judge_3 l = rw (lt-leb _ _ l)

  module _ (m : h.mode ≤ mode_save_and_keep) where
    pub judge_4 : Outside max_cards h.cards → within_limits h ≡ Err 4
    unfolding within_limits
    judge_4 o = rw (le-leb _ _ m, outside _ _ o)

    module _ (c : Within max_cards h.cards) where
      pub judge_5 : Outside max_pool h.pool → within_limits h ≡ Err 5
      unfolding within_limits
      judge_5 o = rw (le-leb _ _ m, within _ _ c, outside _ _ o)

      module _ (p : Within max_pool h.pool) where
        pub judge_6 : max_frames < h.frames → within_limits h ≡ Err 6
        unfolding within_limits
        judge_6 l = rw (le-leb _ _ m, within _ _ c, within _ _ p, lt-leb _ _ l)

        pub judge_accepts : h.frames ≤ max_frames → within_limits h ≡ Ok h
        unfolding within_limits
        judge_accepts l = rw (le-leb _ _ m, within _ _ c, within _ _ p, le-leb _ _ l)

  pub edition_refused : (Known h.edition → ⊥) → header_answer h ≡ Err 2
  unfolding header_answer
  edition_refused n = rw (not_known h.edition n)

  pub edition_passes : Known h.edition → header_answer h ≡ within_limits h
  unfolding header_answer
  edition_passes k = rw (known_is h.edition k)

module _ (t : List ℕ) where
  pub heading_1 : is_line t 0 header_digits ≡ false → heading t ≡ Err 1
  unfolding heading
  heading_1 e = rw e

  heading_of : is_line t 0 header_digits ≡ true → heading t ≡ header_answer (header_of t)
  unfolding heading
  heading_of e = rw e

  pub heading_2 : is_line t 0 header_digits ≡ true → (Known (edition_of t) → ⊥) → heading t ≡ Err 2
  heading_2 e n = heading_of e ∙ edition_refused (header_of t) n

  pub heading_passes : is_line t 0 header_digits ≡ true → Known (edition_of t) → heading t ≡ within_limits (header_of t)
  heading_passes e k = heading_of e ∙ edition_passes (header_of t) k

  -- the numbers that were read are the header's
  pub heading_read :
      {r : Result Header ℕ} {e m c p f : ℕ} → is_line t 0 header_digits ≡ true
      → e ≡ number t 0 2 → m ≡ number t 2 2 → c ≡ number t 4 2 → p ≡ number t 6 4
      → f ≡ number t 10 4 → r ≡ header_answer (record { edition = e; mode = m; cards = c; pool = p; frames = f }) → r ≡ heading t
  unfolding header_of
  heading_read l e m c p f j = rw (heading_of l, ← e, ← m, ← c, ← p, ← f) j
