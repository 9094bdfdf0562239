-- One step on a record and its bytes follows the model: the same rule, and the same dock shown afterwards.
-- Assumes nothing.
use Prim.Native.Nat.{ℕ}
use mathlib.Core.Path.{◌≡◌, refl, sym}
use mathlib.Core.Bool.{Bool, true, false, ◌||◌, cond}
use mathlib.Core.List.{List}
use lib.Dec.{leb}
use lib.ListN.{get_or}
use borrow.Author.Tests.{leb-false}
use Rattle.schedule.specs.Dock.{break_off, against, perform, Dock as ModelDock}
use Rattle.schedule.specs.Dock as model
use Rattle.counting.proofs.Bits.{or_first}
use Rattle.dock.specs.State.{ShowsDock, step_of}
use Rattle.dock.specs.Records.{broken_off}
use Rattle.dock.specs.Drive.{card_in, against_rules, record_made, bytes_made, record_after, bytes_after}
use Rattle.dock.specs.declared.Dock.{Dock}
use Rattle.dock.specs.declared.Step.{Step}
use Rattle.dock.specs.declared.Step.TheVariants.{Read, Drop, End}
use Rattle.dock.proofs.ReadStep.{read_rule, read_shows}
use Rattle.dock.proofs.DropStep.{drop_rule, drop_shows}
use Rattle.dock.proofs.EndStep.{end_rule, end_shows}

-- the three cases of a step, of the model and of a record: broken off, against the rules, within them
by_three : {A B C : Type 0} (P : A → B → C → Type 0) {a₀ a₁ a₂ : A} {b₀ b₁ b₂ : B} {c₀ c₁ : C} (x y : Bool) {x' y' : Bool}
    → x' ≡ x → y' ≡ y
    → (x ≡ true → P a₀ b₀ c₀) → (x ≡ false → y ≡ true → P a₁ b₁ c₀) → (x ≡ false → y ≡ false → P a₂ b₂ c₁)
    → P (cond x' a₀ (cond y' a₁ a₂)) (cond x b₀ (cond y b₁ b₂)) (cond (x || y) c₀ c₁)
by_three P true y e f p q r = rw e (p refl)
by_three P false true e f p q r = rw (e, f) (q refl refl)
by_three P false false e f p q r = rw (e, f) (r refl refl)

module _ {m : ℕ} {cards : List ℕ} {d : ModelDock} {dock : Dock} {memory : List ℕ} (s : ShowsDock m cards d dock memory) where
  same_rule : (a : Step) → against_rules dock memory a ≡ against m cards (step_of a) d
  same_rule (Read p) = read_rule s p
  same_rule (Drop p) = drop_rule s p
  same_rule End = end_rule s

  -- a step within the rules
  made_shows : (a : Step) → dock.broken ≡ false → against_rules dock memory a ≡ false
      → ShowsDock m cards (perform cards (step_of a) d) (record_made dock memory a) (bytes_made dock memory a)
  made_shows (Read p) unbroken e =
      let busy : Bool = get_or dock.busy (card_in (get_or memory p.0 0)) false in
      read_shows s p unbroken (leb-false dock.frames p.0 (or_first (leb dock.frames p.0) busy e))
  made_shows (Drop p) unbroken e =
      drop_shows s p unbroken (leb-false dock.frames p.0 (or_first (leb dock.frames p.0) dock.reading e))
  made_shows End unbroken e = end_shows s

  broken_shows : ShowsDock m cards (break_off d) (broken_off dock) memory
  broken_shows =
      record {
        frames = s.frames;
        pool = s.pool;
        delivered = s.delivered;
        holds = s.holds;
        ended = s.ended;
        broken = refl;
        reading = s.reading;
        busy = s.busy;
        flags = s.flags;
        room = s.room;
        marks = s.marks;
        few = s.few;
        each_card = s.each_card;
        inside = s.inside;
        ahead = s.ahead;
      }

  pub step_shows : (a : Step) → ShowsDock m cards (model.step m cards (step_of a) d) (record_after dock memory a) (bytes_after dock memory a)
  unfolding record_after bytes_after
  step_shows a =
      by_three (ShowsDock m cards) dock.broken (against_rules dock memory a) (sym s.broken) (sym (same_rule a)) (λ b. s)
      (λ b e. broken_shows) (made_shows a)
