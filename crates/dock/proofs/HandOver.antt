-- The loop that hands frames over: what holds of it between two turns.
-- Assumes nothing.
use Prim.Native.Nat.{ℕ, suc, ◌+◌, ◌-◌, ◌≤◌, ◌<◌}
use mathlib.Core.Path.{◌≡◌, refl, sym, ◌∙◌}
use mathlib.Core.List.{List}
use native.Mathlib.Omega.{arith}
use native.Mathlib.Numerals.{add-one}
use native.Mathlib.Decide.{ℕ_discrete}
use lib.ListN.{length, get_or, set, length-set}
use lib.Seq.{get_or-set_same, get_or-set_other}
use borrow.Author.Tests.{le-leb, lt-leb}
use Rattle.schedule.specs.Dock.{deliver}
use Rattle.dock.specs.Drive.{held_in}
use Rattle.dock.specs.Parts.{Freed, HandedOver}

-- n frames are handed over so far; the loop goes on from there
pub record Handing (from frames : ℕ) (before : List ℕ) (n : ℕ) (now : List ℕ) : Type 0 where
  pub rest : deliver (held_in before) (frames - n) n ≡ deliver (held_in before) (frames - from) from
  pub bytes : Freed from n before now

none_freed : (from : ℕ) (memory : List ℕ) → Freed from from memory memory
none_freed from memory =
    record {
      forward = omega arith;
      freed = λ i g l. absurd (omega arith);
      earlier = λ i l. refl;
      later = λ i l. refl;
      same_length = refl;
    }

one_freed : (from n : ℕ) (before now : List ℕ) → Freed from n before now → n < length now
    → Freed from (suc n) before (set now n (get_or now n 0 - 128))
one_freed from n before now v room =
    let x : ℕ = get_or now n 0 - 128 in
    record {
      forward = omega (arith, v.forward);
      freed = λ i h k.
          elim (ℕ_discrete i n) [
            | yes e ↦ rw e (omega (arith, get_or-set_same now n x 0 room, v.later n (omega arith)))
            | no e ↦ get_or-set_other now n i x 0 e ∙ v.freed i h (omega arith)
          ];
      earlier = λ i k. get_or-set_other now n i x 0 (omega (arith, v.forward)) ∙ v.earlier i k;
      later = λ i k. get_or-set_other now n i x 0 (omega arith) ∙ v.later i (omega arith);
      same_length = length-set now n x ∙ v.same_length;
    }

pub none_yet : (from frames : ℕ) (memory : List ℕ) → Handing from frames memory from memory
none_yet from frames memory = record { rest = refl; bytes = none_freed from memory }

module _ {from frames : ℕ} {before : List ℕ} {n : ℕ} {now : List ℕ} (v : Handing from frames before n now) where
  -- the loop ends with n frames handed over
  handed : deliver (held_in before) (frames - n) n ≡ n → HandedOver from frames before n now
  handed e = record { count = sym e ∙ v.rest; bytes = v.bytes }

  pub all_handed : frames ≤ n → HandedOver from frames before n now
  all_handed l = handed (let e : frames - n ≡ 0 = omega arith in rw e)

  -- the next frame is not held, or it is
  module _ (l : n < frames) where
    more : frames - n ≡ suc (frames - suc n)
    more = omega arith

    pub next_not_held : get_or now n 0 < 128 → HandedOver from frames before n now
    next_not_held g =
        let b : get_or before n 0 < 128 = omega (arith, v.bytes.later n (omega arith)) in
        handed (rw (more, lt-leb 128 (get_or before n 0) b))

    pub next_held : n < length now → 128 ≤ get_or now n 0 → Handing from frames before (n + 1) (set now n (get_or now n 0 - 128))
    next_held room g =
        let b : 128 ≤ get_or before n 0 = omega (arith, v.bytes.later n (omega arith)) in
        rw add-one
        (record {
          rest = rw (more, le-leb 128 (get_or before n 0) b) at v.rest;
          bytes = one_freed from n before now v.bytes room;
        })
