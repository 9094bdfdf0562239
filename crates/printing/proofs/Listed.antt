-- The lines that the loop puts, one after another, are the text of the plan.
-- Assumes nothing.
use Prim.Native.Nat.{ℕ, zero, suc, ◌+◌, ◌*◌, ◌≤◌}
use mathlib.Core.Path.{◌≡◌, refl, ap, ◌∙◌}
use mathlib.Core.List.{List, ◌++◌}
use native.Mathlib.Omega.{arith}
use native.Mathlib.Numerals.{add-one}
use lib.ListN.{length, take, drop, set, length-set, length-append}
use lib.Seq.{sets, take_at}
use Rattle.counting.specs.Frames.{card_of}
use Rattle.counting.proofs.Parts.{sets_append, sets_length}
use Rattle.schedule.specs.Schedule.{cycle_of}
use Rattle.schedule.specs.Greedy.{Plan}
use Rattle.text.specs.Hex.{hex, end_of_line}
use Rattle.text.proofs.Hex.{length_hex}
use Rattle.text.specs.Text.{end_byte}
use Rattle.header.specs.declared.Header.{Header}
use Rattle.ticket.specs.Grounds.{Fits}
use Rattle.ticket.specs.Ticket.{accepted}
use Rattle.mode_plans.specs.Plans.{plan_for}
use Rattle.mode_plans.specs.Filled.{Filled}
use Rattle.mode_plans.proofs.Plans.{plan_length}
use Rattle.print_lines.specs.Lines.{frame_line}
use Rattle.print_lines.specs.Put.{Put}
use Rattle.print_lines.proofs.Puts.{frame_length}
use Rattle.print_lines.proofs.Outcome.{room}
use Rattle.printing.specs.Printed.{frame_lines, plan_text, text_of}

-- T and the end of the line
put_head : (l x : List ℕ) (T : ℕ) → x ≡ sets l 0 (hex 4 T) → set x 4 end_byte ≡ sets l 0 (hex 4 T ++ end_of_line)
put_head l x T e = rw e (sets_append l 0 (hex 4 T) end_of_line 4 (rw (length_hex 4 T)))

pub head_length : (l x y : List ℕ) (T : ℕ) (text : List ℕ) → x ≡ sets l 0 (hex 4 T) → y ≡ sets (set x 4 end_byte) 5 text → length y ≡ length l
head_length l x y T text e f = sets_length (set x 4 end_byte) y 5 text f ∙ length-set x 4 end_byte ∙ sets_length l x 0 (hex 4 T) e

frames_long : (cards cycles : List ℕ) (n : ℕ) → length (frame_lines cards cycles n) ≡ 11 * n
unfolding frame_lines
frames_long cards cycles zero = refl
frames_long cards cycles (suc n) =
    omega (
      arith,
      length-append (frame_lines cards cycles n) (frame_line n (card_of cards n) (cycle_of cycles n)),
      frames_long cards cycles n,
      frame_length n (card_of cards n) (cycle_of cycles n),
    )

pub plan_long : (cards : List ℕ) (plan : Plan) → length (plan_text cards plan) ≡ 5 + 11 * length cards
unfolding plan_text
plan_long cards plan =
    omega (
      arith,
      length-append (hex 4 plan.T ++ end_of_line) (frame_lines cards plan.cycles (length cards)),
      length-append (hex 4 plan.T) end_of_line,
      length_hex 4 plan.T,
      frames_long cards plan.cycles (length cards),
    )

module _ (cards cycles : List ℕ) where
  pub no_lines : (l : List ℕ) → l ≡ sets l 5 (frame_lines cards cycles 0)
  unfolding frame_lines
  no_lines l = refl

  -- one more line
  pub next_line :
      (l x y : List ℕ) (i : ℕ) → x ≡ sets l 5 (frame_lines cards cycles i)
      → y ≡ sets x (5 + 11 * i) (frame_line i (card_of cards i) (cycle_of cycles i))
      → y ≡ sets l 5 (frame_lines cards cycles (i + 1))
  unfolding frame_lines
  next_line l x y i e f =
      rw (add-one, f, e)
      (sets_append l 5 (frame_lines cards cycles i) (frame_line i (card_of cards i) (cycle_of cycles i)) (5 + 11 * i) (rw (frames_long cards cycles i)))

  -- the whole run of stores, where there is room
  pub put_all :
      (T i : ℕ) (before x y : List ℕ) → i ≡ length cards → 5 + 11 * length cards ≤ length before → x ≡ sets before 0 (hex 4 T)
      → y ≡ sets (set x 4 end_byte) 5 (frame_lines cards cycles i)
      → Put (plan_text cards (record { cycles = cycles; T = T })) before y (5 + 11 * length cards)
  unfolding plan_text
  put_all T i before x y w l e f =
      let long = plan_long cards (record { cycles = cycles; T = T }) in
      room (plan_text cards (record { cycles = cycles; T = T })) before y (5 + 11 * length cards) (omega (arith, l, long)) (omega (arith, long))
      (f
      ∙ rw (w, put_head before x T e)
      (sets_append before 0 (hex 4 T ++ end_of_line) (frame_lines cards cycles (length cards)) 5
      (omega (arith, length-append (hex 4 T) end_of_line, length_hex 4 T))))

-- the plan that `fill` left at the front of a buffer, and the text of the list
module _ (h : Header) (cards : List ℕ) (fits : Fits h cards) (before after : List ℕ) (T : ℕ)
    (p : Filled (plan_for h.mode h.pool cards) before after T) where
  abbrev plan : Plan
  plan = plan_for h.mode h.pool cards

  as_many : length plan.cycles ≡ h.frames
  as_many = plan_length h.mode h.pool cards fits.pool.0 ∙ fits.frames

  front_is : take h.frames after ≡ plan.cycles
  front_is = rw p.buffer (take_at plan.cycles (drop (length plan.cycles) before) h.frames as_many)

  pub front_length : length (take h.frames after) ≡ length cards
  front_length = ap length front_is ∙ plan_length h.mode h.pool cards fits.pool.0

  pub text_is : plan_text cards (record { cycles = take h.frames after; T = T }) ≡ text_of (accepted h cards)
  unfolding text_of
  text_is = rw (front_is, p.length_is)
