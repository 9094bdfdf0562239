-- What the functions behind `drive` return, as the record and the bytes after the step: a law for each way out of the code.
-- Assumes nothing.
use Prim.Native.Nat.{ℕ, ◌+◌, ◌-◌, ◌≤◌, ◌<◌, min}
use mathlib.Core.Path.{◌≡◌, refl, sym, ap, ◌∙◌}
use mathlib.Core.Bool.{Bool, true, false, ◌||◌, cond, or-true}
use mathlib.Core.List.{List}
use native.Mathlib.Omega.{arith}
use lib.Dec.{leb}
use lib.ListN.{length, get_or, set, length-set}
use borrow.Author.Tests.{le-leb, lt-leb, lt-ltb, le-ltb}
use Rattle.counting.specs.declared.Position.{Position}
use Rattle.dock.specs.State.{most_cycles}
use Rattle.dock.specs.Records.{broken_off, turn_used, now_holding, cycle_ended}
use Rattle.dock.specs.Drive.{card_in, takes_buffer, against_rules, record_made, bytes_made, record_after, bytes_after}
use Rattle.dock.specs.Parts.{HandedOver, Performed, Advanced}
use Rattle.dock.specs.declared.Dock.{Dock}
use Rattle.dock.specs.declared.Step.{Step}
use Rattle.dock.specs.declared.Step.TheVariants.{Read, Drop, End}
use Rattle.dock.proofs.Freeing.{freed_by}

module _ (dock : Dock) (memory : List ℕ) where
  -- a step of a dock that is broken off
  pub stays_broken : (a : Step) → dock.broken ≡ true → Advanced dock a memory dock memory
  unfolding record_after bytes_after
  stays_broken a e = record { dock_is = rw e; memory_is = rw e; same_length = refl }

  -- a step of another dock
  pub performed : (a : Step) {r : Dock} {after : List ℕ} → dock.broken ≡ false → Performed dock a memory r after → Advanced dock a memory r after
  unfolding record_after bytes_after
  performed a unbroken v =
      let against : Bool = against_rules dock memory a in
      record {
        dock_is = v.dock_is ∙ sym (ap (λ b. cond b dock (cond against (broken_off dock) (record_made dock memory a))) unbroken);
        memory_is = v.memory_is ∙ sym (ap (λ b. cond (b || against) memory (bytes_made dock memory a)) unbroken);
        same_length = v.same_length;
      }

  -- a step against the rules, and one within them
  breaks_off : (a : Step) → against_rules dock memory a ≡ true → Performed dock a memory (broken_off dock) memory
  breaks_off a e = record { dock_is = rw e; memory_is = rw e; same_length = refl }

  performs : (a : Step) → against_rules dock memory a ≡ false → {r : Dock} {after : List ℕ} → r ≡ record_made dock memory a
      → after ≡ bytes_made dock memory a → length after ≡ length memory → Performed dock a memory r after
  performs a e p q l = record { dock_is = rw e p; memory_is = rw e q; same_length = l }

  module _ (p : Position) where
    abbrev i : ℕ
    i = p.0

    abbrev b : ℕ
    b = get_or memory i 0

    pub read_past_list : dock.frames ≤ i → Performed dock (Read p) memory (broken_off dock) memory
    read_past_list l = breaks_off (Read p) (rw (le-leb dock.frames i l))

    pub drop_past_list : dock.frames ≤ i → Performed dock (Drop p) memory (broken_off dock) memory
    drop_past_list l = breaks_off (Drop p) (rw (le-leb dock.frames i l))

    module _ (l : i < dock.frames) where
      -- the card that the code has found is the one in the byte
      module _ {c : ℕ} (card : c ≡ card_in b) where
        turn : get_or dock.busy (card_in b) false ≡ get_or dock.busy c false
        turn = sym (ap (λ x. get_or dock.busy x false) card)

        pub read_card_busy : get_or dock.busy c false ≡ true → Performed dock (Read p) memory (broken_off dock) memory
        read_card_busy q = breaks_off (Read p) (rw (turn ∙ q, or-true (leb dock.frames i)))

        module _ (q : get_or dock.busy c false ≡ false) where
          within : against_rules dock memory (Read p) ≡ false
          within = rw (lt-leb dock.frames i l) (turn ∙ q)

          pub read_no_buffer : takes_buffer dock i b ≡ false → Performed dock (Read p) memory (turn_used dock c dock.holding) memory
          read_no_buffer t = performs (Read p) within (rw (t, card)) (rw t) refl

          pub read_buffer : takes_buffer dock i b ≡ true → Performed dock (Read p) memory (turn_used dock c (dock.holding + 1)) (set memory i (b + 128))
          read_buffer t = performs (Read p) within (rw (t, card)) (rw t) (length-set memory i (b + 128))

      pub drop_after_read : dock.reading ≡ true → Performed dock (Drop p) memory (broken_off dock) memory
      drop_after_read r = breaks_off (Drop p) (rw (r, or-true (leb dock.frames i)))

      module _ (r : dock.reading ≡ false) where
        allowed : against_rules dock memory (Drop p) ≡ false
        allowed = rw (lt-leb dock.frames i l) r

        pub drop_not_held : b < 128 → Performed dock (Drop p) memory dock memory
        drop_not_held g = performs (Drop p) allowed (rw (lt-leb 128 b g)) (rw (lt-leb 128 b g)) refl

        module _ (g : 128 ≤ b) where
          pub drop_none_held : dock.holding ≡ 0 → Performed dock (Drop p) memory dock memory
          drop_none_held z =
              let none : dock.holding ≤ 0 = omega arith in
              performs (Drop p) allowed (rw (le-leb 128 b g, le-ltb 0 dock.holding none)) (rw (le-leb 128 b g, le-ltb 0 dock.holding none)) refl

          pub drop_held : 0 < dock.holding → Performed dock (Drop p) memory (now_holding dock (dock.holding - 1)) (set memory i (b - 128))
          drop_held some =
              performs (Drop p) allowed
              (rw (le-leb 128 b g, lt-ltb 0 dock.holding some)) (rw (le-leb 128 b g, lt-ltb 0 dock.holding some))
              (length-set memory i (b - 128))

  pub end_over_pool : dock.pool < dock.holding → Performed dock End memory (broken_off dock) memory
  end_over_pool l = breaks_off End (lt-ltb dock.pool dock.holding l)

  -- n frames are handed over now; h are held, and k cycles have ended
  pub end_within : dock.holding ≤ dock.pool → {n : ℕ} {after : List ℕ} → HandedOver dock.delivered dock.frames memory n after
      → {h k : ℕ} → h ≡ dock.holding - (n - dock.delivered) → k ≡ min (dock.ended + 1) most_cycles → (r : Dock)
      → r ≡ record {
        frames = dock.frames;
        pool = dock.pool;
        delivered = n;
        holding = h;
        ended = k;
        broken = false;
        reading = false;
        busy = (cycle_ended dock n).busy;
      }
      → Performed dock End memory r after
  end_within l {n} {after} v eh ek r e =
      performs End (le-ltb dock.pool dock.holding l) (rw (e, eh, ek, v.count))
      (rw (← v.count) (freed_by dock.delivered n memory after v.bytes)) v.bytes.same_length
