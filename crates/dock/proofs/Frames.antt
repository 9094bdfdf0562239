-- What a frame's byte says of the model's dock, and the held frames after one of them is put in or taken out.
-- Assumes nothing.
use Prim.Native.Nat.{ℕ, ◌+◌, ◌%◌, ◌≤◌, ◌<◌}
use mathlib.Core.Path.{◌≡◌, refl, ap, ◌∙◌}
use mathlib.Core.Bool.{Bool, true, false, cond}
use mathlib.Core.List.{List}
use native.Mathlib.Omega.{arith}
use native.Mathlib.Decide.{ℕ_discrete}
use lib.ListN.{length, get_or}
use borrow.Author.Tests.{eq-eqb, ne_eqb}
use Rattle.counting.specs.Count.{bit, how_many}
use Rattle.counting.specs.Frames.{card_of}
use Rattle.schedule.specs.Dock.{is_in, put, Dock as ModelDock}
use Rattle.dock.specs.State.{ShowsDock, mark}
use Rattle.dock.specs.Drive.{is_held}
use Rattle.dock.specs.declared.Dock.{Dock}
use Rattle.dock.proofs.Counting.{put_count}
use Rattle.dock.proofs.Marks.{mark_card, mark_held}

module _ {m : ℕ} {cards : List ℕ} {d : ModelDock} {dock : Dock} {memory : List ℕ}
    (s : ShowsDock m cards d dock memory) (i : ℕ) (l : i < dock.frames) where
  pub in_list : i < length cards
  in_list = omega (arith, s.frames)

  pub byte_card : get_or memory i 0 % 32 ≡ card_of cards i
  byte_card = ap (λ b. b % 32) (s.marks i in_list) ∙ mark_card (card_of cards i) (d.held i) (s.each_card i in_list)

  pub byte_held : is_held (get_or memory i 0) ≡ d.held i
  byte_held = ap is_held (s.marks i in_list) ∙ mark_held (card_of cards i) (d.held i) (s.each_card i in_list)

  pub byte_busy : get_or dock.busy (get_or memory i 0 % 32) false ≡ is_in (card_of cards i) d.busy
  byte_busy = ap (λ c. get_or dock.busy c false) byte_card ∙ s.busy (card_of cards i) (s.each_card i in_list)

  -- frame i is put among the held ones (v is true), or taken out
  module _ (v : Bool) where
    pub put_holds : (h : ℕ) → h + bit (d.held i) ≡ dock.holding + bit v → h ≡ how_many (length cards) (put d.held i v)
    put_holds h e = omega (arith, s.holds, put_count (length cards) i d.held v in_list)

    pub put_marks : (after : List ℕ) → get_or after i 0 ≡ card_of cards i + cond v 128 0
        → ((j : ℕ) → (j ≡ i → ⊥) → get_or after j 0 ≡ get_or memory j 0)
        → (j : ℕ) → j < length cards → get_or after j 0 ≡ mark cards (put d.held i v) j
    put_marks after e h j g =
        elim (ℕ_discrete j i) [
          | yes q ↦ rw (q, eq-eqb i i refl) e
          | no q ↦ rw (ne_eqb j i q) (h j q ∙ s.marks j g)
        ]

    pub put_ahead : (v ≡ true → d.delivered ≤ i) → (j : ℕ) → j < length cards → put d.held i v j ≡ true → d.delivered ≤ j
    put_ahead h j g =
        elim (ℕ_discrete j i) [
          | yes q ↦ rw (q, eq-eqb i i refl) h
          | no q ↦ rw (ne_eqb j i q) (s.ahead j g)
        ]
