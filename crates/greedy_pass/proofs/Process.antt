-- greedy_writing in one pass. The tables of the pass (each frame's cycle, each card's latest, how many are due in each cycle, the cycles made
-- and the frames that wait) follow the published process frame by frame, and at the end of the list hold its plan.
-- Assumes nothing.
use Prim.Native.Nat.{ℕ, suc, ◌+◌, ◌-◌, ◌≤◌, ◌<◌, max, zero-le}
use mathlib.Core.Path.{◌≡◌, refl, sym, ap, ◌∙◌}
use mathlib.Core.Bool.{cond}
use mathlib.Core.List.{List, map}
use native.Mathlib.Omega.{arith}
use native.Mathlib.Decide.{dec_le}
use native.Mathlib.Numerals.{add-one}
use lib.Dec.{ltb, leb-zero}
use lib.ListN.{length, length-map, get_or-map}
use lib.Seq.{ext_get_or}
use borrow.Author.Tests.{lt-ltb, le-ltb}
use Rattle.counting.specs.Frames.{card_of}
use Rattle.schedule.specs.Schedule.{cycle_of}
use Rattle.schedule.specs.Greedy.{Plan, in_pool, one_cycle, save_first, save_and_keep, greedy_writing}
use Rattle.greedy_pass.specs.AsOf.{as_of}
use Rattle.greedy_pass.proofs.Assigned.{Has, assigned_none, latest_le}
use Rattle.greedy_pass.proofs.Due.{Counts, waiting_le, due_le, waiting_splits, counts_cycle, counts_enter}
use Rattle.greedy_pass.proofs.Shown.{as_of_made, Shows, in_pool_is, shows_cycle, shows_enter, Top, flush_shows}

-- the tables belong to a plan in the making; cycles below K are counted
pub record Tables (cards : List ℕ) (K n : ℕ) (p : Plan) (a latest due : ℕ → ℕ) (t w : ℕ) : Type 0 where
  pub made_is : p.T ≡ t
  pub shows : Shows cards n p a latest
  pub counts : Counts K n t a due w
  pub made_le : t ≤ n

-- the first n frames are saved
pub record Saved (cards : List ℕ) (K m n : ℕ) (a latest due : ℕ → ℕ) (t w : ℕ) : Type 0 where
  pub tables : Tables cards K n (save_first cards m n) a latest due t w
  -- the last of them waits
  pub last_waits : (i : ℕ) → suc i ≡ n → t < a i

-- the state in which the next frame enters
abbrev pub ready : List ℕ → ℕ → ℕ → Plan
ready cards m n = cond (ltb (in_pool (save_first cards m n).cycles) m) (save_first cards m n) (one_cycle cards (save_first cards m n))

pub record Ready (cards : List ℕ) (K m n : ℕ) (a latest due : ℕ → ℕ) (t w : ℕ) : Type 0 where
  pub tables : Tables cards K n (ready cards m n) a latest due t w

pub saved_none :
    (cards : List ℕ) (K m : ℕ) (a latest due : ℕ → ℕ) → ((c : ℕ) → latest c ≡ 0) → ((u : ℕ) → u < K → due u ≡ 0)
    → Saved cards K m 0 a latest due 0 0
saved_none cards K m a latest due e f =
    record {
      tables =
          record {
            made_is = refl;
            shows = record { long = refl; shown = λ i l. absurd (omega arith); assigned = assigned_none (card_of cards) a latest e };
            counts = record { waiting = refl; each = f };
            made_le = zero-le;
          };
      last_waits = λ i l. absurd (omega arith);
    }

module _ {cards : List ℕ} {K m n : ℕ} {a latest due : ℕ → ℕ} {t w : ℕ} where
  module _ (v : Saved cards K m n a latest due t w) where
    pool_is : in_pool (save_first cards m n).cycles ≡ w
    pool_is = rw v.tables.made_is at (in_pool_is v.tables.shows) ∙ sym v.tables.counts.waiting

    pub room_left : w < m → Ready cards K m n a latest due t w
    room_left h = record { tables = rw (lt-ltb (in_pool (save_first cards m n).cycles) m (rw pool_is h)) v.tables }

    pub made_lt : 1 ≤ w → t < n
    made_lt h =
        omega (
          arith,
          waiting_le v.tables.counts,
          v.last_waits (n - 1) (omega (arith, waiting_le v.tables.counts)),
          v.tables.shows.assigned.few (n - 1) (omega (arith, waiting_le v.tables.counts)),
        )

    module _ (some : 1 ≤ m) (full : m ≤ w) (room : n < K) where
      pub due_le_waiting : due (t + 1) ≤ w
      due_le_waiting = rw (add-one t) (omega (arith, waiting_splits v.tables.counts (omega (arith, made_lt (omega arith)))))

      -- the pool is full: one cycle is made
      pub pool_full : Ready cards K m n a latest due (t + 1) (w - due (t + 1))
      pool_full =
          record {
            tables =
                rw (le-ltb (in_pool (save_first cards m n).cycles) m (rw pool_is full), add-one t)
                (record {
                  made_is = ap suc v.tables.made_is;
                  shows = shows_cycle v.tables.shows;
                  counts = counts_cycle v.tables.counts (omega (arith, made_lt (omega arith)));
                  made_le = made_lt (omega arith);
                });
          }

  module _ (v : Ready cards K m n a latest due t w) where
    pub ready_latest_le : (c : ℕ) → latest c ≤ n
    ready_latest_le = latest_le v.tables.shows.assigned

    pub ready_due_le : (u : ℕ) → u < K → due u ≤ n
    ready_due_le = due_le v.tables.counts

    pub ready_waiting_le : w ≤ n
    ready_waiting_le = waiting_le v.tables.counts

    -- the next frame enters, and is given its cycle
    pub enters :
        {a' latest' due' : ℕ → ℕ} → ((i : ℕ) → i < n → a' i ≡ a i) → a' n ≡ max (latest (card_of cards n)) t + 1
        → latest' (card_of cards n) ≡ a' n → ((c : ℕ) → (c ≡ card_of cards n → ⊥) → latest' c ≡ latest c)
        → due' (a' n) ≡ due (a' n) + 1 → ((u : ℕ) → (u ≡ a' n → ⊥) → due' u ≡ due u)
        → Saved cards K m (suc n) a' latest' due' t (w + 1)
    enters old new here there due_here due_there =
        record {
          tables =
              record {
                made_is = v.tables.made_is;
                shows =
                    shows_enter v.tables.shows (omega (arith, v.tables.made_is, v.tables.made_le)) old (omega (arith, v.tables.made_is)) here
                    there;
                counts = counts_enter v.tables.counts old (omega arith) due_here due_there;
                made_le = omega (arith, v.tables.made_le);
              };
          last_waits = λ i e. let q : i ≡ n = omega arith in rw q (omega arith);
        }

-- the largest of the cards' latest cycles is the largest of all
pub top_latest :
    {cards : List ℕ} {K m n : ℕ} {a latest due : ℕ → ℕ} {t w T : ℕ} → Saved cards K m n a latest due t w → ((c : ℕ) → latest c ≤ T)
    → (1 ≤ T → (c : ℕ) × (latest c ≡ T)) → Top n a T
top_latest {cards} {n = n} {a} {latest} {T = T} v over met =
    record {
      over = λ i l. omega (arith, v.tables.shows.assigned.latest_over i l, over (card_of cards i));
      met = λ h.
          let g : (c : ℕ) × (latest c ≡ T) = met h in
          let b : Has (card_of cards) a n g.0 (latest g.0) = v.tables.shows.assigned.latest_met g.0 (omega arith) in
          (b.0, b.1, b.3 ∙ g.1);
    }

-- the whole list is saved
module _
    {cards : List ℕ} {K m : ℕ} {a latest due : ℕ → ℕ} {t w T : ℕ} (v : Saved cards K m (length cards) a latest due t w)
    (top : Top (length cards) a T) where
  abbrev L : ℕ
  L = length cards

  made_le_top : t ≤ T
  made_le_top =
      elim (dec_le L 0) [
        | yes h ↦ omega (arith, v.tables.made_le)
        | no h ↦ omega (arith, v.last_waits (L - 1) (omega arith), top.over (L - 1) (omega arith))
      ]

  pub top_le : T ≤ L
  top_le =
      elim (dec_le 1 T) [
        | yes h ↦ (let g : (i : ℕ) × (i < L) × (a i ≡ T) = top.met h in omega (arith, v.tables.shows.assigned.few g.0 g.1))
        | no h ↦ omega arith
      ]

  done : ((greedy_writing m cards).T ≡ T) × Shows cards L (greedy_writing m cards) a latest
  unfolding greedy_writing save_and_keep
  done =
      flush_shows cards L L T (save_first cards m L) a latest v.tables.shows top (omega (arith, made_le_top, v.tables.made_is)) (omega (arith, top_le))

  pub greedy_T : (greedy_writing m cards).T ≡ T
  greedy_T = done.0

  cycle_is : (i : ℕ) → i < L → cycle_of (greedy_writing m cards).cycles i ≡ a i
  cycle_is i l = done.1.shown i l ∙ as_of_made (greedy_writing m cards).T (a i) (omega (arith, greedy_T, top.over i l))

  pub greedy_cycles : (l : List ℕ) → length l ≡ L → ((i : ℕ) → i < L → cycle_of l i ≡ a i) → (greedy_writing m cards).cycles ≡ l
  greedy_cycles l e f =
      ext_get_or 0 (greedy_writing m cards).cycles l (done.1.long ∙ sym e)
      (λ i k. let q : i < L = omega (arith, done.1.long) in cycle_is i q ∙ sym (f i q))

  -- without the closing cycles
  pub keep_T : (save_and_keep m cards).T ≡ t
  unfolding save_and_keep
  keep_T = v.tables.made_is

  pub keep_cycles : (save_and_keep m cards).cycles ≡ map (as_of t) (greedy_writing m cards).cycles
  unfolding save_and_keep
  keep_cycles =
      ext_get_or 0 (save_first cards m L).cycles (map (as_of t) (greedy_writing m cards).cycles)
      (v.tables.shows.long ∙ sym (length-map (greedy_writing m cards).cycles (as_of t) ∙ done.1.long))
      (λ i k.
      let q : i < L = omega (arith, v.tables.shows.long) in
      let z : as_of t 0 ≡ 0 = rw (leb-zero t) in
      v.tables.shows.shown i q
      ∙ ap (λ x. as_of x (a i)) v.tables.made_is
      ∙ ap (as_of t) (sym (cycle_is i q))
      ∙ sym (rw z at (get_or-map (as_of t) (greedy_writing m cards).cycles i 0)))
