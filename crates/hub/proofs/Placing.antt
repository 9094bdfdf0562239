-- The words of the cameras and the cards in the buffer after some frames, after one frame more, and after eight more of one camera.
-- Assumes nothing.
use Prim.Native.Nat.{ℕ, zero, suc, ◌+◌, ◌%◌, ◌≤◌, ◌<◌}
use mathlib.Core.Path.{◌≡◌, refl, sym, ap, ◌∙◌}
use mathlib.Core.List.{List, ◌++◌}
use native.Mathlib.Omega.{arith}
use native.Mathlib.Nat.{add-zero}
use native.Mathlib.Numerals.{add-one}
use native.Mathlib.Decide.{ℕ_discrete}
use lib.ListN.{length, get_or, drop, set, length-set, length-append, length-drop}
use lib.Seq.{sets, get_or-set_same, get_or-set_other}
use Rattle.counting.specs.Count.{tabulate, written}
use Rattle.counting.proofs.Counted.{load_own, load_other}
use Rattle.counting.proofs.Lists.{length_tabulate, fill}
use Rattle.hub.specs.Gather.{max_cameras, camera_of, taken, pattern_of, card_for, hub_cards}
use Rattle.hub.specs.Grounds.{Known, Seen}
use Rattle.hub.specs.Patterns.{hub_size}
use Rattle.hub.specs.Words.{word_at, turn, low_bytes, Words, Placing, Inside, AllOf}
use Rattle.hub.proofs.Named.{patterns_name}
use Rattle.hub.proofs.Turning.{lowest, turned, values, values_cong, card_bytes, word_round}

-- the words of the cameras, being filled: the first n are there
pub record Ready (chosen : List ℕ) (n : ℕ) (words : List ℕ) : Type 0 where
  pub so_many : length words ≡ max_cameras
  pub each : (q : ℕ) → q < n → get_or words q 0 ≡ word_at (pattern_of chosen q) 0

-- values of a function, written one after the other
pub fill_all :
    (f : ℕ → ℕ) (m i : ℕ) (l : List ℕ) → i + m ≤ length l
    → sets (tabulate i f ++ drop i l) i (values f i m) ≡ tabulate (i + m) f ++ drop (i + m) l
fill_all f zero i l h = rw (add-zero i)
fill_all f (suc m) i l h =
    let next : i + 1 ≡ suc i = add-one i in
    let more : i + suc m ≡ suc i + m = omega arith in
    let one : set (tabulate i f ++ drop i l) i (f i) ≡ tabulate (suc i) f ++ drop (suc i) l = rw next at (fill f i l (omega arith)) in
    ap (λ (x : List ℕ). sets x (suc i) (values f (suc i) m)) one
    ∙ fill_all f m (suc i) l (omega arith)
    ∙ ap (λ (x : ℕ). tabulate x f ++ drop x l) (sym more)

module _ (chosen cameras before : List ℕ) (known : Known chosen) (seen : Seen chosen cameras) (room : length cameras ≤ length before) where
  -- a card is less than a byte
  low : (q : ℕ) → q < length chosen → (k : ℕ) → k < hub_size → pattern_of chosen q k < 256
  low q l k h = omega (arith, (patterns_name (get_or chosen q 0) (known.pattern q l)).inside_hub k h)

  pub placing_none : (words : List ℕ) → Words chosen words → Placing chosen cameras before 0 words before
  placing_none words w = record { so_many = w.so_many; each = w.each; placed = refl }

  pub placing_length :
      (i : ℕ) (words cards : List ℕ) → Placing chosen cameras before i words cards → i ≤ length cameras → length cards ≡ length before
  placing_length i words cards p l =
      ap length p.placed
      ∙ simp (length-append, length-drop) (omega (arith, length_tabulate i (card_for chosen cameras)))

  -- what a part of the list asks
  pub inside : (from to places : ℕ) → from ≤ to → to ≤ length cameras → to ≤ places → Inside cameras from to places
  inside from to places order listed enough =
      record { order = order; listed = listed; room = enough; low = λ i l. omega (arith, seen i l, known.count) }

  pub all_placed :
      (words cards : List ℕ) → Placing chosen cameras before (length cameras) words cards → cards ≡ written (hub_cards chosen cameras) before
  unfolding hub_cards
  all_placed words cards p = rw (length_tabulate (length cameras) (card_for chosen cameras)) p.placed

  module _ (i : ℕ) (words cards : List ℕ) (p : Placing chosen cameras before i words cards) (inside : i < length cameras) where
    -- one frame more
    pub placing_next :
        (camera : ℕ) → camera ≡ camera_of cameras i
        → Placing chosen cameras before (i + 1) (set words camera (turn (get_or words camera 0))) (set cards i (get_or words camera 0 % 256))
    placing_next camera is =
        let its : camera < length chosen = rw is (seen i inside) in
        let small : camera < length words = omega (arith, p.so_many, known.count) in
        let card : ℕ → ℕ = pattern_of chosen camera in
        let more : taken cameras (i + 1) camera ≡ suc (taken cameras i camera) = rw (is, add-one i) (load_own cameras i) in
        let next : get_or words camera 0 % 256 ≡ card_for chosen cameras i =
        rw (p.each camera its, lowest card (low camera its) (taken cameras i camera), is) in
        record {
          so_many = length-set words camera (turn (get_or words camera 0)) ∙ p.so_many;
          each = λ q h.
              elim (ℕ_discrete q camera) [
                | yes same ↦
                    rw (same, more)
                    (get_or-set_same words camera (turn (get_or words camera 0)) 0 small
                    ∙ rw (p.each camera its) (turned card (low camera its) (taken cameras i camera)))
                | no other ↦
                    (let as_before : taken cameras (i + 1) q ≡ taken cameras i q = rw (add-one i) (load_other cameras i q (λ f. other (f ∙ sym is))) in
                    rw as_before (get_or-set_other words camera q (turn (get_or words camera 0)) 0 other ∙ p.each q h))
              ];
          placed = rw (p.placed, next) (fill (card_for chosen cameras) i before (omega arith));
        }

  -- eight frames of one camera
  module _
      (i : ℕ) (words cards : List ℕ) (p : Placing chosen cameras before i words cards) (inside : i + hub_size ≤ length cameras)
      (camera : ℕ) (same : AllOf camera cameras i hub_size) where
    -- none of them is another camera's
    taken_others : (q m : ℕ) → m ≤ hub_size → (q ≡ camera → ⊥) → taken cameras (i + m) q ≡ taken cameras i q
    taken_others q zero h n = ap (λ (x : ℕ). taken cameras x q) (add-zero i)
    taken_others q (suc m) h n =
        let next : i + suc m ≡ suc (i + m) = omega arith in
        rw next (load_other cameras (i + m) q (λ f. n (f ∙ same m (omega arith))) ∙ taken_others q m (omega arith) n)

    taken_own : (m : ℕ) → m ≤ hub_size → taken cameras (i + m) camera ≡ taken cameras i camera + m
    taken_own zero h = rw (add-zero i, add-zero (taken cameras i camera))
    taken_own (suc m) h =
        let next : i + suc m ≡ suc (i + m) = omega arith in
        let its : camera_of cameras (i + m) ≡ camera = same m (omega arith) in
        let own : taken cameras (suc (i + m)) camera ≡ suc (taken cameras (i + m) camera) =
        sym (ap (taken cameras (suc (i + m))) its) ∙ load_own cameras (i + m) ∙ ap (λ (q : ℕ). suc (taken cameras (i + m) q)) its in
        rw next (omega (arith, own, taken_own m (omega arith)))

    pub placing_eight : Placing chosen cameras before (i + hub_size) words (sets cards i (low_bytes 8 (get_or words camera 0)))
    placing_eight =
        let its : camera < length chosen = rw (← same 0 (omega arith)) (seen (i + 0) (omega arith)) in
        let card : ℕ → ℕ = pattern_of chosen camera in
        let from : ℕ = taken cameras i camera in
        let bytes : low_bytes 8 (get_or words camera 0) ≡ values (card_for chosen cameras) i hub_size =
        rw (p.each camera its)
        (card_bytes card (low camera its) from
        ∙ values_cong hub_size (λ j. card (j % hub_size)) (card_for chosen cameras) from i
        (λ j l. rw (same j l, taken_own j (omega arith)))) in
        record {
          so_many = p.so_many;
          each = λ q h.
              elim (ℕ_discrete q camera) [
                | yes e ↦ rw (e, taken_own hub_size (omega arith), word_round card (low camera its) from) (p.each camera its)
                | no other ↦ rw (taken_others q hub_size (omega arith) other) (p.each q h)
              ];
          placed =
              ap (λ (x : List ℕ). sets cards i x) bytes
              ∙ ap (λ (x : List ℕ). sets x i (values (card_for chosen cameras) i hub_size)) p.placed
              ∙ fill_all (card_for chosen cameras) hub_size i before (omega arith);
        }
