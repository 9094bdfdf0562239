-- Places past the list keep their content, whatever record and memory are handed in.
-- Assumes nothing.
use Prim.Native.Nat.{ℕ, ◌+◌, ◌-◌, ◌≤◌, ◌<◌}
use mathlib.Core.Path.{◌≡◌, refl, sym, ◌∙◌}
use mathlib.Core.Bool.{Bool, false, ◌||◌, cond}
use mathlib.Core.List.{List}
use native.Mathlib.Omega.{arith}
use native.Mathlib.Decide.{dec_lt}
use lib.Dec.{leb}
use lib.ListN.{length, get_or, set, drop, length-drop}
use lib.Seq.{get_or-drop, ext_get_or, drop-set-lt}
use borrow.Author.Tests.{leb-false}
use Rattle.counting.proofs.Bits.{by_test, or_neither}
use Rattle.schedule.proofs.Deliver.{deliver_within}
use Rattle.dock.specs.Drive.{card_in, held_in, takes_buffer, frees_buffer, handed_over, freed, against_rules, bytes_made, bytes_after, too_short, memory_driven}
use Rattle.dock.specs.declared.Dock.{Dock}
use Rattle.dock.specs.declared.Step.{Step}
use Rattle.dock.specs.declared.Step.TheVariants.{Read, Drop, End}
use Rattle.counting.proofs.Bits.{or_first}
use Rattle.dock.proofs.Freeing.{freed_length, freed_before, freed_behind}

module _ (dock : Dock) (memory : List ℕ) where
  abbrev Kept : List ℕ → Type 0
  Kept after = drop dock.frames after ≡ drop dock.frames memory

  -- a frame of the list has another byte
  one_byte : (b : Bool) (i x : ℕ) → leb dock.frames i ≡ false → Kept (cond b (set memory i x) memory)
  one_byte b i x e =
      by_test Kept b (set memory i x) memory (λ t. drop-set-lt dock.frames memory i x (leb-false dock.frames i e)) (λ f. refl)

  -- the frames handed over are of the list
  place_kept : (i : ℕ) → dock.frames ≤ i → i < length memory → get_or (freed dock.delivered (handed_over dock memory) memory) i 0 ≡ get_or memory i 0
  place_kept i l g =
      elim (dec_lt i dock.delivered) [
        | yes k ↦ freed_before dock.delivered (handed_over dock memory) memory i g k
        | no k ↦
            freed_behind dock.delivered (handed_over dock memory) memory i g
            (omega (arith, deliver_within (held_in memory) (dock.frames - dock.delivered) dock.delivered))
      ]

  made_kept : (a : Step) → against_rules dock memory a ≡ false → Kept (bytes_made dock memory a)
  made_kept (Read p) e =
      let b : ℕ = get_or memory p.0 0 in
      one_byte (takes_buffer dock p.0 b) p.0 (b + 128) (or_first (leb dock.frames p.0) (get_or dock.busy (card_in b) false) e)
  made_kept (Drop p) e =
      let b : ℕ = get_or memory p.0 0 in
      one_byte (frees_buffer dock b) p.0 (b - 128) (or_first (leb dock.frames p.0) dock.reading e)
  made_kept End e =
      let after : List ℕ = freed dock.delivered (handed_over dock memory) memory in
      let same : length after ≡ length memory = freed_length dock.delivered (handed_over dock memory) memory in
      ext_get_or 0 (drop dock.frames after) (drop dock.frames memory)
      (simp length-drop (omega (arith, same)))
      (λ i l.
      get_or-drop dock.frames after i 0
      ∙ place_kept (dock.frames + i) (omega arith) (omega (arith, same, length-drop dock.frames after))
      ∙ sym (get_or-drop dock.frames memory i 0))

  after_kept : (a : Step) → Kept (bytes_after dock memory a)
  unfolding bytes_after
  after_kept a =
      by_test Kept (dock.broken || against_rules dock memory a) memory (bytes_made dock memory a) (λ t. refl)
      (λ f. made_kept a (or_neither dock.broken (against_rules dock memory a) f))

  pub past_kept : (a : Step) → drop dock.frames (memory_driven dock memory a) ≡ drop dock.frames memory
  unfolding memory_driven
  past_kept a = by_test Kept (too_short dock memory) memory (bytes_after dock memory a) (λ t. refl) (λ f. after_kept a)
