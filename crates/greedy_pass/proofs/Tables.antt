-- The arrays of the pass hold the tables of proofs/Process, turn by turn, and at the end greedy_writing's plan.
-- Assumes nothing.
use Prim.Native.Nat.{ℕ, suc, ◌+◌, ◌-◌, ◌≤◌, ◌<◌, max}
use mathlib.Core.Path.{◌≡◌, refl, sym, ap, ◌∙◌}
use mathlib.Core.Bool.{Bool}
use mathlib.Core.List.{List}
use native.Mathlib.Omega.{arith}
use native.Mathlib.Numerals.{add-one}
use lib.ListN.{length, get_or, take, drop, set, replicate, length-replicate, length-set, take-append-drop}
use lib.Seq.{get_or-set_same, get_or-set_other, drop-set-lt, get_or-take, length-take-le}
use Rattle.counting.specs.Count.{largest, written}
use Rattle.schedule.specs.Greedy.{greedy_writing}
use Rattle.counting.proofs.Lists.{get_or_zeros, le_largest, largest_met}
use Rattle.header.specs.Limits.{max_cards, max_frames}
use Rattle.greedy_pass.proofs.Shown.{Top}
use Rattle.greedy_pass.proofs.Process.{Saved, Ready}
use Rattle.greedy_pass.proofs.Process as process
use Rattle.counting.specs.Lists.{turned, taken_at}
use Rattle.greedy_pass.specs.Pass.{Asked, Passed}
use Rattle.counting.proofs.Turned.{taken_lt, taken_apart, length_turned, turned_turned, get_or_turned}

-- the cycle of the frame taken i-th, and an entry of an array
abbrev cycle_at : Bool → ℕ → List ℕ → ℕ → ℕ
cycle_at back n out i = get_or out (taken_at back n i) 0

abbrev entry : List ℕ → ℕ → ℕ
entry l i = get_or l i 0

-- one place of `due` for each cycle that a plan can have, and place 0
abbrev places : ℕ
places = suc max_frames

-- the arrays before a turn of the loop: k frames have entered
pub record Turn (m : ℕ) (back : Bool) (cards out₀ out due latest : List ℕ) (made waiting k : ℕ) : Type 0 where
  pub same_out : length out ≡ length out₀
  pub rest : drop (length cards) out ≡ drop (length cards) out₀
  pub long_due : length due ≡ places
  pub long_latest : length latest ≡ max_cards
  pub saved : Saved (turned back cards) places m k (cycle_at back (length cards) out) (entry latest) (entry due) made waiting

-- the arrays when the next frame may enter; everything fits in 16 bits
pub record Open (m : ℕ) (back : Bool) (cards out due latest : List ℕ) (made waiting k : ℕ) : Type 0 where
  pub ready : Ready (turned back cards) places m k (cycle_at back (length cards) out) (entry latest) (entry due) made waiting
  pub made_low : made < max_frames
  pub waiting_low : waiting < max_frames
  pub latest_low : (c : ℕ) → get_or latest c 0 < max_frames
  pub due_low : (u : ℕ) → u ≤ max_frames → get_or due u 0 < max_frames

pub first_turn : (m : ℕ) (back : Bool) (cards out : List ℕ) → Turn m back cards out out (replicate places 0) (replicate max_cards 0) 0 0 0
first_turn m back cards out =
    record {
      same_out = refl;
      rest = refl;
      long_due = length-replicate {A = ℕ} places 0;
      long_latest = length-replicate {A = ℕ} max_cards 0;
      saved =
          process.saved_none (turned back cards) places m (cycle_at back (length cards) out) (entry (replicate max_cards 0)) (entry (replicate places 0))
          (get_or_zeros max_cards) (λ u l. get_or_zeros places u);
    }

module _
    {m : ℕ} {back : Bool} {cards out₀ out due latest : List ℕ} {made waiting k : ℕ} (f : Asked m cards out₀)
    (v : Turn m back cards out₀ out due latest made waiting k) where
  module _ (l : k < length cards) where
    opened :
        {made' waiting' : ℕ}
        → Ready (turned back cards) places m k (cycle_at back (length cards) out) (entry latest) (entry due) made' waiting'
        → Open m back cards out due latest made' waiting' k
    opened r =
        record {
          ready = r;
          made_low = omega (arith, f.few, r.tables.made_le);
          waiting_low = omega (arith, f.few, process.ready_waiting_le r);
          latest_low = λ c. omega (arith, f.few, process.ready_latest_le r c);
          due_low = λ u g. omega (arith, f.few, process.ready_due_le r u (omega arith));
        }

    pub room_left : waiting < m → Open m back cards out due latest made waiting k
    room_left h = opened (process.room_left v.saved h)

    -- the pool is full: one cycle is made
    module _ (full : m ≤ waiting) where
      pub made_low : made < max_frames
      made_low = omega (arith, f.pool, f.few, process.made_lt v.saved (omega (arith, f.pool)))

      pub due_le_waiting : get_or due (made + 1) 0 ≤ waiting
      due_le_waiting = process.due_le_waiting v.saved f.pool full (omega (arith, f.few))

      pub cycle_made : Open m back cards out due latest (made + 1) (waiting - get_or due (made + 1) 0) k
      cycle_made = opened (process.pool_full v.saved f.pool full (omega (arith, f.few)))

    -- the next frame, at place i and of card c, enters with cycle s
    module _ {made' waiting' : ℕ} (o : Open m back cards out due latest made' waiting' k) {i : ℕ} (i-is : i ≡ taken_at back (length cards) k) where
      i_inside : i < length cards
      i_inside = rw i-is (taken_lt back (length cards) k l)

      module _ {c s u : ℕ} (c-is : c ≡ get_or cards i 0) (s-is : s ≡ max (get_or latest c 0) made' + 1) (u-is : u ≡ s) where
        card_is : get_or (turned back cards) k 0 ≡ c
        card_is = get_or_turned back cards k l ∙ ap (λ x. get_or cards x 0) (sym i-is) ∙ sym c-is

        cycle_is : cycle_at back (length cards) (set out i s) k ≡ s
        cycle_is = rw (← i-is) (get_or-set_same out i s 0 (omega (arith, i_inside, v.same_out, f.room)))

        pub next_turn : Turn m back cards out₀ (set out i s) (set due u (get_or due u 0 + 1)) (set latest c s) made' (waiting' + 1) (k + 1)
        next_turn =
            record {
              same_out = length-set out i s ∙ v.same_out;
              rest = drop-set-lt (length cards) out i s i_inside ∙ v.rest;
              long_due = length-set due u (get_or due u 0 + 1) ∙ v.long_due;
              long_latest = length-set latest c s ∙ v.long_latest;
              saved =
                  rw (add-one k)
                  (process.enters o.ready
                  (λ j g. get_or-set_other out i (taken_at back (length cards) j) s 0 (λ e. taken_apart back (length cards) j k g l (e ∙ i-is)))
                  (cycle_is ∙ rw card_is s-is)
                  (rw (card_is, cycle_is) (get_or-set_same latest c s 0 (omega (arith, c-is, f.each_card i i_inside, v.long_latest))))
                  (λ x g. get_or-set_other latest c x s 0 (λ e. g (e ∙ sym card_is)))
                  (rw (cycle_is, ← u-is) (get_or-set_same due u (get_or due u 0 + 1) 0 (omega (arith, o.latest_low c, o.made_low, v.long_due))))
                  (λ x g. get_or-set_other due u x (get_or due u 0 + 1) 0 (λ e. g (e ∙ u-is ∙ sym cycle_is))));
            }

  -- after the last turn
  module _ (l : k ≡ length cards) {all : ℕ} (all_is : all ≡ largest latest) where
    abbrev list : List ℕ
    list = turned back cards

    whole : Saved list places m (length list) (cycle_at back (length cards) out) (entry latest) (entry due) made waiting
    whole = let e : k ≡ length list = omega (arith, length_turned back cards) in rw e at v.saved

    top : Top (length list) (cycle_at back (length cards) out) all
    top =
        process.top_latest whole (λ c. rw all_is (le_largest latest c))
        (λ h. let r = largest_met latest (omega arith) in (r.0, r.2 ∙ sym all_is))

    abbrev front : List ℕ
    front = take (length cards) out

    front_length : length front ≡ length cards
    front_length = length-take-le (length cards) out (omega (arith, v.same_out, f.room))

    cycles_are : (greedy_writing m list).cycles ≡ turned back front
    cycles_are =
        process.greedy_cycles whole top (turned back front) (length_turned back front ∙ front_length ∙ sym (length_turned back cards))
        (λ i h.
        let q : i < length cards = omega (arith, length_turned back cards) in
        get_or_turned back front i (omega (arith, front_length))
        ∙ rw front_length (get_or-take (length cards) out (taken_at back (length cards) i) 0 (taken_lt back (length cards) i q)))

    filled : out ≡ written (turned back (greedy_writing m list).cycles) out₀
    filled =
        let e : turned back (greedy_writing m list).cycles ≡ front = ap (turned back) cycles_are ∙ turned_turned back front in
        sym (take-append-drop (length cards) out) ∙ rw (e, front_length, v.rest)

    pub passed : Passed m back cards out₀ out made all
    passed =
        record {
          filled = filled;
          all_is = sym (process.greedy_T whole top);
          all_few = omega (arith, process.top_le whole top, length_turned back cards, f.few);
          made_is = sym (process.keep_T whole top);
          kept = process.keep_cycles whole top;
        }
