-- save and close meet their contracts: the answer is the defined one, its record is one that a call gave, and the call is greedy_writing's step.
-- Assumes nothing.
use Prim.Native.Nat.{ℕ, suc, ◌≤◌, ◌<◌}
use mathlib.Core.Path.{◌≡◌, refl, sym, ap, ◌∙◌}
use mathlib.Core.List.{List, map}
use native.Mathlib.Omega.{arith}
use lib.Dec.{ltb}
use borrow.Author.Tests.{lt-ltb, le-ltb}
use Rattle.counting.specs.Frames.{card_of}
use Rattle.schedule.specs.Greedy.{Plan, in_pool, enter, one_cycle, save_frame}
use Rattle.greedy_pool.proofs.Logs.{entries_enter}
use Rattle.saver.specs.declared.Saver.{Saver}
use Rattle.saver.specs.declared.Answer.{Answer}
use Rattle.saver.specs.Calls.{position, quiet, entered, after_cycle, cycle_on, then_enters, closing_begun, save_of, close_of, Given, saved, closed}
use Rattle.saver.specs.Formed.{Formed, Room}
use Rattle.saver.specs.Follows.{ShowsPlan, Tells, SaveFollows, CloseFollows}
use Rattle.saver.proofs.Answers.{save_cases, close_cases}
use Rattle.saver.proofs.Forming.{formed_cycle, formed_closing, given_formed}
use Rattle.saver.proofs.Following.{shows_entered, shows_cycle, entries_cycle}

module _ (list : List ℕ) (p : Plan) (s : Saver) (f : Formed s) (v : ShowsPlan list p s) where
  -- the frame enters
  tells_entered : (card : ℕ) → card_of list s.taken ≡ card → s.waiting < s.pool → Tells list p (enter p) (quiet (entered s card))
  tells_entered card c room =
      record { shows = shows_entered list p s f v card c room; no_cycle = λ e. (refl, refl); a_cycle = λ e. absurd (omega arith) }

  -- one cycle
  tells_cycle : Tells list p (one_cycle list p) (cycle_on s)
  tells_cycle =
      record {
        shows = shows_cycle list p s f v;
        no_cycle = λ e. absurd (omega arith);
        a_cycle = λ e. (omega (arith, v.made), entries_cycle list p s f v);
      }

  -- one cycle, and then the frame enters
  tells_both : (card : ℕ) → card_of list s.taken ≡ card → 1 ≤ s.waiting → s.waiting ≤ s.pool
      → Tells list p (enter (one_cycle list p)) (then_enters (cycle_on s) card)
  tells_both card c some fits_pool =
      let next : Formed (after_cycle s) × ((after_cycle s).waiting < s.waiting) = formed_cycle s f some in
      record {
        shows = shows_entered list (one_cycle list p) (after_cycle s) next.0 (shows_cycle list p s f v) card c (omega (arith, next.1));
        no_cycle = λ e. absurd (omega arith);
        a_cycle = λ e. (
          omega (arith, v.made),
          entries_cycle list p s f v ∙ ap (map position) (sym (entries_enter list (one_cycle list p) (suc p.T) (omega arith))),
        );
      }

  step_room : ltb s.waiting s.pool ≡ ltb (in_pool p.cycles) s.pool
  step_room = rw v.waiting

  tells_save : (card : ℕ) → card_of list s.taken ≡ card → (save_of s card).refusal ≡ 0 → Tells list p (save_frame list s.pool p) (save_of s card)
  tells_save card c =
      save_cases s card (λ (r : Answer). r.refusal ≡ 0 → Tells list p (save_frame list s.pool p) r)
      (λ a z. absurd (omega arith)) (λ b z. absurd (omega arith)) (λ d z. absurd (omega arith))
      (λ a b d e z. rw (← step_room, lt-ltb s.waiting s.pool e) (tells_entered card c e))
      (λ a b d e z. rw (← step_room, le-ltb s.waiting s.pool e) (tells_both card c (omega (arith, f.some_pool)) f.fits_pool))

-- closing changes nothing that a record shows
shows_closing : {list : List ℕ} {p : Plan} {s : Saver} → ShowsPlan list p s → ShowsPlan list p (closing_begun s)
shows_closing v =
    record { taken = v.taken; made = v.made; waiting = v.waiting; positions = v.positions; cards = v.cards; told = v.told }

pub save_follows : (s : Saver) (card : ℕ) → Formed s → SaveFollows s card (save_of s card)
save_follows s card f = record { follows = λ list p v c z. tells_save list p s f v card c z }

pub close_follows : (s : Saver) → Formed s → CloseFollows s (close_of s)
close_follows s f =
    record {
      follows = λ list p v.
          close_cases s (λ (r : Answer). r.refusal ≡ 0 → Tells list p (one_cycle list p) r)
          (λ a z. absurd (omega arith))
          (λ a z. tells_cycle list p (closing_begun s) (formed_closing s f) (shows_closing v));
    }

abbrev Saved : Saver → ℕ → Answer → Type 0
Saved s card r = (r ≡ save_of s card) × ((Given r.saver) × SaveFollows s card r)

pub is_saved : {s : Saver} (card : ℕ) {r : Answer} → Given s → r ≡ save_of s card → Saved s card r
is_saved {s} card g e = (e, (rw e (saved s card g), rw e (save_follows s card (given_formed g))))

abbrev Closed : Saver → Answer → Type 0
Closed s r = (r ≡ close_of s) × ((Given r.saver) × CloseFollows s r)

pub is_closed : {s : Saver} {r : Answer} → Given s → r ≡ close_of s → Closed s r
is_closed {s} g e = (e, (rw e (closed s g), rw e (close_follows s (given_formed g))))

-- after a cycle there is room
pub room_after : {s : Saver} {r : Answer} → Given s → s.taken < 4096 → s.pool ≤ s.waiting → r ≡ cycle_on s → Room r.saver
room_after {s} g t full e =
    let f : Formed s = given_formed g in
    let next : Formed (after_cycle s) × ((after_cycle s).waiting < s.waiting) = formed_cycle s f (omega (arith, f.some_pool)) in
    rw e (record { place = omega (arith, next.1, f.fits_pool, f.small_pool); number = t })
