-- The read of a frame: what it makes of a record and its bytes shows the model's read.
-- Assumes nothing.
use Prim.Native.Nat.{ℕ, ◌+◌, ◌≤◌, ◌<◌}
use mathlib.Core.Path.{◌≡◌, refl, sym, ap, ◌∙◌}
use mathlib.Core.Bool.{Bool, true, false, not, cond, ◌&&◌, ◌||◌, false≢true}
use mathlib.Core.List.{List, ◌∷◌}
use native.Mathlib.Omega.{arith}
use native.Mathlib.Decide.{ℕ_discrete, dec_le}
use lib.Dec.{leb, ltb}
use lib.ListN.{length, get_or, set, length-set}
use lib.Seq.{get_or-set_same, get_or-set_other}
use borrow.Author.Tests.{eq-eqb, ne_eqb, le-leb, lt-leb, leb-true, leb-false, ltb-true, lt-ltb, not-true}
use Rattle.counting.specs.Count.{bit}
use Rattle.counting.specs.Frames.{card_of}
use Rattle.schedule.specs.Dock.{read_frame, is_in, against, perform, Dock as ModelDock}
use Rattle.counting.specs.declared.Position.{Position}
use Rattle.counting.proofs.Bits.{by_cases, and_left, and_right, or_cases}
use Rattle.counting.proofs.Sums.{one_missing}
use Rattle.header.specs.Limits.{max_cards}
use Rattle.dock.specs.State.{ShowsDock}
use Rattle.dock.specs.Records.{turn_used}
use Rattle.dock.specs.Drive.{card_in, is_held, takes_buffer, against_rules, record_made, bytes_made}
use Rattle.dock.specs.declared.Dock.{Dock}
use Rattle.dock.specs.declared.Step.TheVariants.{Read}
use Rattle.dock.proofs.Frames.{in_list, byte_card, byte_held, byte_busy, put_holds, put_marks, put_ahead}

-- what a read that takes a buffer has passed
module _ (dock : Dock) (i b : ℕ) (e : takes_buffer dock i b ≡ true) where
  pub takes_not_held : b < 128
  takes_not_held = leb-false 128 b (not-true (is_held b) (and_left (not (is_held b)) (leb dock.delivered i && ltb dock.holding dock.frames) e))

  takes_rest : (leb dock.delivered i && ltb dock.holding dock.frames) ≡ true
  takes_rest = and_right (not (is_held b)) (leb dock.delivered i && ltb dock.holding dock.frames) e

  takes_ahead : dock.delivered ≤ i
  takes_ahead = leb-true dock.delivered i (and_left (leb dock.delivered i) (ltb dock.holding dock.frames) takes_rest)

  pub takes_counted : dock.holding < dock.frames
  takes_counted = ltb-true dock.holding dock.frames (and_right (leb dock.delivered i) (ltb dock.holding dock.frames) takes_rest)

module _ {m : ℕ} {cards : List ℕ} {d : ModelDock} {dock : Dock} {memory : List ℕ} (s : ShowsDock m cards d dock memory) (p : Position) where
  abbrev i : ℕ
  i = p.0

  abbrev b : ℕ
  b = get_or memory i 0

  pub read_rule : against_rules dock memory (Read p) ≡ against m cards (read_frame i) d
  read_rule =
      elim (dec_le dock.frames i) [
        | yes g ↦ (let h : length cards ≤ i = omega (arith, s.frames) in rw (le-leb dock.frames i g, le-leb (length cards) i h))
        | no g ↦
            (let l : i < dock.frames = omega arith in
            rw (lt-leb dock.frames i l, lt-leb (length cards) i (in_list s i l)) (byte_busy s i l))
      ]

  module _ (unbroken : dock.broken ≡ false) (l : i < dock.frames) where
    now_busy : (k : ℕ) → k < max_cards → get_or (set dock.busy (card_in b) true) k false ≡ is_in k (card_of cards i ∷ d.busy)
    now_busy k g =
        let here : card_in b ≡ card_of cards i = byte_card s i l in
        let known : card_in b < length dock.busy = omega (arith, here, s.flags, s.each_card i (in_list s i l)) in
        elim (ℕ_discrete k (card_in b)) [
          | yes e ↦ rw (e, eq-eqb (card_in b) (card_of cards i) here) (get_or-set_same dock.busy (card_in b) true false known)
          | no e ↦
              (let other : k ≡ card_of cards i → ⊥ = omega arith in
              rw (ne_eqb k (card_of cards i) other) (get_or-set_other dock.busy (card_in b) k true false e ∙ s.busy k g))
        ]

    -- the frame is held now, if it is not handed over; h frames are
    read : (h : ℕ) (after : List ℕ) → length after ≡ length memory
        → h + bit (d.held i) ≡ dock.holding + bit (d.held i || leb d.delivered i)
        → get_or after i 0 ≡ card_of cards i + cond (d.held i || leb d.delivered i) 128 0
        → ((j : ℕ) → (j ≡ i → ⊥) → get_or after j 0 ≡ get_or memory j 0)
        → ShowsDock m cards (perform cards (read_frame i) d) (turn_used dock (card_in b) h) after
    read h after e count here others =
        let v : Bool = d.held i || leb d.delivered i in
        record {
          frames = s.frames;
          pool = s.pool;
          delivered = s.delivered;
          holds = put_holds s i l v h count;
          ended = s.ended;
          broken = unbroken;
          reading = refl;
          busy = now_busy;
          flags = length-set dock.busy (card_in b) true ∙ s.flags;
          room = omega (arith, s.room);
          marks = put_marks s i l v after here others;
          few = s.few;
          each_card = s.each_card;
          inside = s.inside;
          ahead =
              put_ahead s i l v
              (λ e. or_cases (d.held i) (leb d.delivered i) e (s.ahead i (in_list s i l)) (leb-true d.delivered i));
        }

    -- no buffer is taken: the frame is held, or it is handed over
    as_held : takes_buffer dock i b ≡ false → (d.held i || leb d.delivered i) ≡ d.held i
    as_held no-take =
        by_cases (d.held i) (λ t. rw t)
        (λ f.
        by_cases (leb d.delivered i)
        (λ t.
        let rest : dock.holding < dock.frames = omega (arith, s.holds, s.frames, one_missing (length cards) i d.held (in_list s i l) f) in
        let takes : takes_buffer dock i b ≡ true = rw (byte_held s i l, f, s.delivered, t, lt-ltb dock.holding dock.frames rest) in
        absurd (false≢true (sym no-take ∙ takes)))
        (λ g. rw (f, g)))

    no_buffer : takes_buffer dock i b ≡ false → ShowsDock m cards (perform cards (read_frame i) d) (turn_used dock (card_in b) dock.holding) memory
    no_buffer no-take =
        let same : (d.held i || leb d.delivered i) ≡ d.held i = as_held no-take in
        read dock.holding memory refl (ap (λ v. dock.holding + bit v) (sym same))
        (s.marks i (in_list s i l) ∙ ap (λ v. card_of cards i + cond v 128 0) (sym same)) (λ j e. refl)

    a_buffer : takes_buffer dock i b ≡ true
        → ShowsDock m cards (perform cards (read_frame i) d) (turn_used dock (card_in b) (dock.holding + 1)) (set memory i (b + 128))
    a_buffer takes =
        let f : d.held i ≡ false = sym (byte_held s i l) ∙ lt-leb 128 b (takes_not_held dock i b takes) in
        let g : d.delivered ≤ i = omega (arith, s.delivered, takes_ahead dock i b takes) in
        let t : leb d.delivered i ≡ true = le-leb d.delivered i g in
        let e : b ≡ card_of cards i + 0 = s.marks i (in_list s i l) ∙ rw f in
        read (dock.holding + 1) (set memory i (b + 128)) (length-set memory i (b + 128)) (rw (f, t) (omega arith))
        (rw (f, t) (get_or-set_same memory i (b + 128) 0 (omega (arith, s.frames, s.room)) ∙ omega arith))
        (λ j q. get_or-set_other memory i j (b + 128) 0 q)

    pub read_shows : ShowsDock m cards (perform cards (read_frame i) d) (record_made dock memory (Read p)) (bytes_made dock memory (Read p))
    read_shows = by_cases (takes_buffer dock i b) (λ e. rw e (a_buffer e)) (λ e. rw e (no_buffer e))
