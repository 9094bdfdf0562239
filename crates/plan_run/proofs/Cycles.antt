-- The steps of a plan one after the other: the reads of a cycle, its end, and the cycles up to the last.
-- Assumes nothing.
use Prim.Native.Nat.{ℕ, zero, suc, ◌+◌, ◌-◌, ◌≤◌, ◌<◌, min}
use mathlib.Core.Path.{◌≡◌, refl, sym, ap, ◌∙◌}
use mathlib.Core.List.{List, [], ◌∷◌, ◌++◌, append_assoc, append-nil}
use native.Mathlib.Omega.{arith}
use native.Mathlib.Numerals.{add-one}
use lib.Dec.{ltb}
use lib.ListN.{length, get_or, take}
use mathlib.Core.Bool.{true, false, cond}
use Rattle.std.specs.Prelude.{Option, None, Some, Result, Ok, Err, nat_eq}
use Rattle.std.specs.Result.{OkIff, result_ok}
use Rattle.std.specs.Option.{option_eq}
use Rattle.std.specs.List.{filter, reduce, fold}
use borrow.Author.Tests.{eq-eqb, ne_eqb, ltb-true, ltb-false}
use Rattle.std.proofs.lemmas.List.Sums.{fold_more}
use Rattle.counting.proofs.Bits.{by_cases}
use Rattle.schedule.specs.Schedule.{cycle_of}
use Rattle.schedule.specs.Dock.{Step, read_frame, end_cycle, empty_dock, run}
use Rattle.schedule.specs.Drive.{reads_of, steps_to}
use Rattle.run_progress.specs.declared.Progress.{Progress}
use Rattle.dock.specs.State.{most_cycles}
use Rattle.run_progress.specs.Progress.{Tracked}
use Rattle.plan_run.specs.Cycles.{last_cycle, Reached, reads_to, ReadsMade, CyclesMade, Next}
use Rattle.run_progress.proofs.Tracked.{run_snoc, step_counted, read_ends_none}

module _ {m : ℕ} {cards : List ℕ} {steps : List Step} {t : ℕ} {p : Progress} {memory : List ℕ} (v : Reached m cards steps t p memory) where
  module _ (low : t < most_cycles) where
    counts : (run m cards steps empty_dock).ended < most_cycles
    counts = omega (arith, v.ends)

    pub one_read : {i : ℕ} {r : Progress} {after : List ℕ} → Tracked p (read_frame i) memory r after
        → Reached m cards (steps ++ (read_frame i ∷ [])) t r after
    one_read {i} w =
        record {
          tracks = w.follows m cards steps v.tracks counts;
          ends = rw (run_snoc m cards steps (read_frame i) empty_dock, read_ends_none m cards (run m cards steps empty_dock) i) v.ends;
        }

    pub one_end : {r : Progress} {after : List ℕ} → Tracked p end_cycle memory r after → Reached m cards (steps ++ (end_cycle ∷ [])) (suc t) r after
    one_end w =
        record {
          tracks = w.follows m cards steps v.tracks counts;
          ends =
              rw (run_snoc m cards steps end_cycle empty_dock)
              (omega (arith, step_counted m cards (run m cards steps empty_dock) end_cycle, v.ends));
        }

-- the reads of cycle c, frame by frame
module _ {cycles : List ℕ} {c : ℕ} {p : Progress} {before : List ℕ} where
  pub reads_none : ReadsMade cycles c 0 p before p before
  reads_none = record { follows = λ m cards v. rw append-nil v }

  module _ {k : ℕ} {q : Progress} {memory : List ℕ} (v : ReadsMade cycles c k p before q memory) where
    pub reads_skip : (cycle_of cycles k ≡ c → ⊥) → ReadsMade cycles c (k + 1) p before q memory
    reads_skip n = record { follows = λ m cards w. rw (add-one, ne_eqb (cycle_of cycles k) c n, append-nil) (v.follows m cards w) }

    pub reads_next :
        {r : Progress} {after : List ℕ} {at : ℕ} → c ≤ last_cycle → cycle_of cycles k ≡ c → at ≡ k → Tracked q (read_frame at) memory r after
        → ReadsMade cycles c (k + 1) p before r after
    reads_next low e i w =
        record {
          follows = λ m cards u.
              rw (add-one, eq-eqb (cycle_of cycles k) c e, ← append_assoc (steps_to cycles (c - 1)) (reads_of cycles c k) (read_frame k ∷ []))
              (one_read (v.follows m cards u) (omega arith) (rw i at w));
        }

-- cycle c
steps_to_is : (cycles : List ℕ) (c : ℕ) → 1 ≤ c → steps_to cycles c ≡ reads_to cycles c (length cycles) ++ (end_cycle ∷ [])
unfolding steps_to
steps_to_is cycles zero f = absurd (omega arith)
steps_to_is cycles (suc n) f =
    let e : suc n - 1 ≡ n = omega arith in
    rw e (sym (append_assoc (steps_to cycles n) (reads_of cycles (suc n) (length cycles)) (end_cycle ∷ [])))

pub cycle_ends :
    {cycles : List ℕ} {c : ℕ} {p q r : Progress} {before memory after : List ℕ} → 1 ≤ c → c ≤ last_cycle
    → ReadsMade cycles c (length cycles) p before q memory → Tracked q end_cycle memory r after → CyclesMade cycles (c - 1) c p before r after
cycle_ends {cycles} {c} f low v w =
    let e : suc (c - 1) ≡ c = omega arith in
    record { follows = λ m cards u. rw (steps_to_is cycles c f) (rw e at (one_end (v.follows m cards u) (omega arith) w)) }

-- a cycle that no frame has
no_reads : (cycles : List ℕ) (c n : ℕ) → ((i : ℕ) → i < n → cycle_of cycles i ≡ c → ⊥) → reads_of cycles c n ≡ []
no_reads cycles c zero h = refl
no_reads cycles c (suc n) h =
    rw (no_reads cycles c n (λ i l. h i (omega arith)), ne_eqb (cycle_of cycles n) c (h n (omega arith)))

pub other_next : (next : Option ℕ) (c : ℕ) → option_eq nat_eq next (Some c) ≡ false → next ≡ Some c → ⊥
other_next next c e q = let same : option_eq nat_eq next (Some c) ≡ true = rw q (eq-eqb c c refl) in cc

not_now : (cycles : List ℕ) (c : ℕ) (next : Option ℕ) → 1 ≤ c → Next cycles (c - 1) next → (next ≡ Some c → ⊥)
    → (i : ℕ) → i < length cycles → cycle_of cycles i ≡ c → ⊥
not_now cycles c None f n d i l e = absurd (omega (arith, n i l))
not_now cycles c (Some x) f n d i l e = let same : x ≡ c = omega (arith, n.0, n.1 i l (omega arith)) in d (ap (λ k. Some k) same)

pub reads_of_none :
    (cycles : List ℕ) (c : ℕ) (next : Option ℕ) {p : Progress} {memory : List ℕ} → 1 ≤ c → Next cycles (c - 1) next → (next ≡ Some c → ⊥)
    → ReadsMade cycles c (length cycles) p memory p memory
reads_of_none cycles c next f n d =
    let none : reads_of cycles c (length cycles) ≡ [] = no_reads cycles c (length cycles) (not_now cycles c next f n d) in
    record { follows = λ m cards v. rw (none, append-nil) v }

-- the cycles one after the other
module _ {cycles : List ℕ} {t : ℕ} {p : Progress} {before : List ℕ} where
  pub cycles_none : CyclesMade cycles t t p before p before
  cycles_none = record { follows = λ m cards v. v }

  module _ {u : ℕ} {q : Progress} {memory : List ℕ} (v : CyclesMade cycles t u p before q memory) where
    pub cycles_next : {r : Progress} {after : List ℕ} → CyclesMade cycles (u + 1 - 1) (u + 1) q memory r after
        → CyclesMade cycles t (u + 1) p before r after
    cycles_next w =
        let e : u + 1 - 1 ≡ u = omega arith in
        record { follows = λ m cards x. w.follows m cards (rw e (v.follows m cards x)) }

-- The first of the cycles after t, as the least of those that are: of a and of a list's
module _ (t : ℕ) where
  abbrev later : List ℕ → List ℕ
  later l = filter (λ c. ltb t c) l

  least_after : (a : ℕ) (l : List ℕ) → t < a → t < fold min a (later l)
  least_after a [] h = h
  least_after a (x ∷ l) h =
      by_cases (ltb t x) (λ e. rw e (least_after (min a x) l (omega (arith, ltb-true t x e)))) (λ e. rw e (least_after a l h))

  abbrev Least : ℕ → ℕ → List ℕ → Type 0
  Least n a l = (n ≤ a) × ((i : ℕ) → i < length l → t < get_or l i 0 → n ≤ get_or l i 0)

  least_more : (n x : ℕ) (l : List ℕ) → (t < x → n ≤ x) → ((i : ℕ) → i < length l → t < get_or l i 0 → n ≤ get_or l i 0)
      → (i : ℕ) → i < suc (length l) → t < get_or (x ∷ l) i 0 → n ≤ get_or (x ∷ l) i 0
  least_more n x l h g zero k = h
  least_more n x l h g (suc i) k = g i (omega arith)

  least : (a : ℕ) (l : List ℕ) → Least (fold min a (later l)) a l
  least a [] = (omega arith, λ i h g. absurd (omega arith))
  least a (x ∷ l) =
      by_cases (ltb t x)
      (λ e. rw e (let r = least (min a x) l in (omega (arith, r.0), least_more _ x l (λ g. omega (arith, r.0)) r.1)))
      (λ e. rw e (let r = least a l in (r.0, least_more _ x l (λ g. absurd (omega (arith, ltb-false t x e))) r.1)))

  none_more : (x : ℕ) (l : List ℕ) → x ≤ t → ((i : ℕ) → i < length l → get_or l i 0 ≤ t)
      → (i : ℕ) → i < suc (length l) → get_or (x ∷ l) i 0 ≤ t
  none_more x l h n zero k = h
  none_more x l h n (suc i) k = n i (omega arith)

  next_of_rest : (x : ℕ) (l : List ℕ) (next : Option ℕ) → x ≤ t → Next l t next → Next (x ∷ l) t next
  next_of_rest x l None h n = none_more x l h n
  next_of_rest x l (Some m) h n = (n.0, least_more m x l (λ g. absurd (omega arith)) n.1)

  pub next_found : (cycles : List ℕ) → Next cycles t (reduce min (later cycles))
  next_found [] = λ i h. absurd (omega arith)
  next_found (x ∷ l) =
      by_cases (ltb t x)
      (λ e. rw e (let r = least x l in (least_after x l (ltb-true t x e), least_more _ x l (λ g. r.0) r.1)))
      (λ e. rw e (next_of_rest x l (reduce min (later l)) (ltb-false t x e) (next_found l)))

  -- The same by one smallest number: a cycle up to t counts as `past`, a number after all.
  module _ (past : ℕ) where
    abbrev pub lower : ℕ → ℕ → ℕ
    lower n c = min n (cond (ltb t c) c past)

    lower_later : (a : ℕ) (l : List ℕ) → a ≤ past → fold lower a l ≡ fold min a (later l)
    lower_later a [] h = refl
    lower_later a (x ∷ l) h =
        by_cases (ltb t x)
        (λ e. rw e (lower_later (min a x) l (omega (arith, h))))
        (λ e. rw e (let s : min a past ≡ a = omega (arith, h) in rw s (lower_later a l h)))

    pub lower_next :
        (l : List ℕ) (i : ℕ) {n m after : ℕ} → i < length l → n ≡ fold lower past (take i l) → m ≡ min n after
        → after ≡ cond (ltb t (get_or l i 0)) (get_or l i 0) past → m ≡ fold lower past (take (i + 1) l)
    lower_next l i k e f g = rw (f, e, g) (sym (fold_more lower past l i 0 k))

    pub counts_itself : {x after : ℕ} → t < x → after ≡ x → after ≡ cond (ltb t x) x past
    counts_itself {x} h e = by_cases (ltb t x) (λ b. rw b e) (λ b. absurd (omega (arith, h, ltb-false t x b)))

    pub counts_past : {x after : ℕ} → x ≤ t → after ≡ past → after ≡ cond (ltb t x) x past
    counts_past {x} h e = by_cases (ltb t x) (λ b. absurd (omega (arith, h, ltb-true t x b))) (λ b. rw b e)

    -- the smallest number of a list, `past` where no cycle is after t
    abbrev Lowest : ℕ → Option ℕ → Type 0
    Lowest n None = n ≡ past
    Lowest n (Some m) = (n ≡ m) × (m < past)

    lowest : (l : List ℕ) → ((i : ℕ) → i < length l → get_or l i 0 < past) → Lowest (fold lower past l) (reduce min (later l))
    lowest [] s = refl
    lowest (x ∷ l) s =
        let small : x < past = s 0 (omega arith) in
        let same : min past x ≡ x = omega (arith, small) in
        let none : min past past ≡ past = omega arith in
        by_cases (ltb t x)
        (λ e. rw e (rw same (lower_later x l (omega (arith, small)), omega (arith, small, (least x l).0))))
        (λ e. rw e (rw none (lowest l (λ i k. s (suc i) (omega arith)))))

    told : {E : Type 0} (r : Result ℕ E) (n : ℕ) (o : Option ℕ) → Lowest n o → OkIff r (n < past) n → result_ok r ≡ o
    told (Ok x) n None s k = absurd (omega (arith, s, k.0))
    told (Ok x) n (Some m) s k = ap Some (k.1 ∙ s.0)
    told (Err e) n None s k = refl
    told (Err e) n (Some m) s k = absurd (k (omega (arith, s.0, s.1)))

    pub first_later :
        {E : Type 0} (l : List ℕ) → ((i : ℕ) → i < length l → get_or l i 0 < past) → (n : ℕ) → n ≡ fold lower past l
        → (r : Result ℕ E) → OkIff r (n < past) n → result_ok r ≡ reduce min (later l)
    first_later l s n e r k = told r n (reduce min (later l)) (rw e (lowest l s)) k
