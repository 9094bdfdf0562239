-- The drop of a frame: what it makes of a record and its bytes shows the model's drop.
-- Assumes nothing.
use Prim.Native.Nat.{ℕ, ◌+◌, ◌-◌, ◌≤◌, ◌<◌}
use mathlib.Core.Path.{◌≡◌, refl, sym, ◌∙◌}
use mathlib.Core.Bool.{true, false, false≢true}
use mathlib.Core.List.{List}
use native.Mathlib.Omega.{arith}
use lib.ListN.{length, get_or, set, length-set}
use lib.Seq.{get_or-set_same, get_or-set_other}
use borrow.Author.Tests.{lt-ltb}
use lib.Dec.{ltb}
use Rattle.counting.specs.Count.{bit}
use Rattle.counting.specs.Frames.{card_of}
use Rattle.schedule.specs.Dock.{drop_frame, against, perform, Dock as ModelDock}
use Rattle.counting.specs.declared.Position.{Position}
use Rattle.counting.proofs.Bits.{by_cases, and_left}
use Rattle.counting.proofs.Sums.{passes_after}
use Rattle.dock.specs.State.{ShowsDock}
use Rattle.dock.specs.Records.{now_holding}
use Rattle.dock.specs.Drive.{is_held, frees_buffer, against_rules, record_made, bytes_made}
use Rattle.dock.specs.declared.Dock.{Dock}
use Rattle.dock.specs.declared.Step.TheVariants.{Drop}
use Rattle.dock.proofs.Frames.{in_list, byte_held, put_holds, put_marks, put_ahead}

module _ {m : ℕ} {cards : List ℕ} {d : ModelDock} {dock : Dock} {memory : List ℕ} (s : ShowsDock m cards d dock memory) (p : Position) where
  abbrev i : ℕ
  i = p.0

  abbrev b : ℕ
  b = get_or memory i 0

  pub drop_rule : against_rules dock memory (Drop p) ≡ against m cards (drop_frame i) d
  drop_rule = rw (s.frames, s.reading)

  module _ (unbroken : dock.broken ≡ false) (l : i < dock.frames) where
    -- the frame is not held now; h frames are
    dropped : (h : ℕ) (after : List ℕ) → length after ≡ length memory → h + bit (d.held i) ≡ dock.holding → get_or after i 0 ≡ card_of cards i
        → ((j : ℕ) → (j ≡ i → ⊥) → get_or after j 0 ≡ get_or memory j 0)
        → ShowsDock m cards (perform cards (drop_frame i) d) (now_holding dock h) after
    dropped h after e count here others =
        record {
          frames = s.frames;
          pool = s.pool;
          delivered = s.delivered;
          holds = put_holds s i l false h (omega arith);
          ended = s.ended;
          broken = unbroken;
          reading = s.reading;
          busy = s.busy;
          flags = s.flags;
          room = omega (arith, s.room);
          marks = put_marks s i l false after (omega arith) others;
          few = s.few;
          each_card = s.each_card;
          inside = s.inside;
          ahead = put_ahead s i l false (λ e. absurd (false≢true e));
        }

    not_held : d.held i ≡ false → ShowsDock m cards (perform cards (drop_frame i) d) dock memory
    not_held f =
        let e : b ≡ card_of cards i = s.marks i (in_list s i l) ∙ rw f (omega arith) in
        dropped dock.holding memory refl (rw f (omega arith)) e (λ j q. refl)

    -- a held frame is counted
    counted : d.held i ≡ true → 1 ≤ dock.holding
    counted t = omega (arith, s.holds, passes_after (length cards) i d.held (in_list s i l) t)

    held : d.held i ≡ true → ShowsDock m cards (perform cards (drop_frame i) d) (now_holding dock (dock.holding - 1)) (set memory i (b - 128))
    held t =
        let e : b ≡ card_of cards i + 128 = s.marks i (in_list s i l) ∙ rw t in
        dropped (dock.holding - 1) (set memory i (b - 128)) (length-set memory i (b - 128)) (rw t (omega (arith, counted t)))
        (get_or-set_same memory i (b - 128) 0 (omega (arith, s.frames, s.room)) ∙ omega arith)
        (λ j q. get_or-set_other memory i j (b - 128) 0 q)

    frees : d.held i ≡ true → frees_buffer dock b ≡ true
    frees t = rw (byte_held s i l, t) (lt-ltb 0 dock.holding (counted t))

    pub drop_shows : ShowsDock m cards (perform cards (drop_frame i) d) (record_made dock memory (Drop p)) (bytes_made dock memory (Drop p))
    drop_shows =
        by_cases (frees_buffer dock b)
        (λ e. rw e (held (sym (byte_held s i l) ∙ and_left (is_held b) (ltb 0 dock.holding) e)))
        (λ e. rw e (by_cases (d.held i) (λ t. absurd (false≢true (sym e ∙ frees t))) not_held))
