-- The bytes of frames that are handed over: `freed` place by place, and as what the loop leaves.
-- Assumes nothing.
use Prim.Native.Nat.{ℕ, ◌-◌, ◌≤◌, ◌<◌}
use mathlib.Core.Path.{◌≡◌, sym, ◌∙◌}
use mathlib.Core.Bool.{◌&&◌, cond, and-false}
use mathlib.Core.List.{List}
use native.Mathlib.Omega.{arith}
use native.Mathlib.Decide.{dec_lt}
use lib.Dec.{leb, ltb}
use lib.ListN.{length, get_or}
use lib.Seq.{ext_get_or}
use borrow.Author.Tests.{le-leb, lt-leb, lt-ltb, le-ltb}
use Rattle.counting.proofs.Lists.{length_tabulate, get_or_tabulate}
use Rattle.dock.specs.Drive.{freed}
use Rattle.dock.specs.Parts.{Freed}

module _ (from n : ℕ) (memory : List ℕ) where
  abbrev byte : ℕ → ℕ
  byte i = get_or memory i 0 - cond (leb from i && ltb i n) 128 0

  pub freed_length : length (freed from n memory) ≡ length memory
  freed_length = length_tabulate (length memory) byte

  module _ (i : ℕ) (l : i < length memory) where
    here : get_or (freed from n memory) i 0 ≡ byte i
    here = get_or_tabulate (length memory) byte i 0 l

    pub freed_among : from ≤ i → i < n → get_or (freed from n memory) i 0 ≡ get_or memory i 0 - 128
    freed_among g h = here ∙ rw (le-leb from i g, lt-ltb i n h)

    pub freed_before : i < from → get_or (freed from n memory) i 0 ≡ get_or memory i 0
    freed_before g = here ∙ rw (lt-leb from i g) (omega arith)

    pub freed_behind : n ≤ i → get_or (freed from n memory) i 0 ≡ get_or memory i 0
    freed_behind g = here ∙ rw (le-ltb i n g, and-false (leb from i)) (omega arith)

  pub freed_by : (after : List ℕ) → Freed from n memory after → after ≡ freed from n memory
  freed_by after v =
      ext_get_or 0 after (freed from n memory) (v.same_length ∙ sym freed_length)
      (λ i l.
      let room : i < length memory = omega (arith, v.same_length) in
      elim (dec_lt i from) [
        | yes g ↦ v.earlier i g ∙ sym (freed_before i room g)
        | no g ↦
            elim (dec_lt i n) [
              | yes h ↦ v.freed i (omega arith) h ∙ sym (freed_among i room (omega arith) h)
              | no h ↦ v.later i (omega arith) ∙ sym (freed_behind i room (omega arith))
            ]
      ])
