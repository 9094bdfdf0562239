-- The frames of the lines of a part, and the lines of a list of frames, written one after another.
-- Assumes nothing.
use Prim.Native.Nat.{ℕ, ◌+◌, ◌*◌, ◌<◌}
use mathlib.Core.Path.{◌≡◌, refl, sym, ap, ◌∙◌}
use mathlib.Core.List.{List, map}
use native.Mathlib.Omega.{arith}
use native.Mathlib.Numerals.{add-one}
use lib.ListN.{length, get_or, take, drop, get_or-map}
use lib.Seq.{sets}
use Rattle.counting.specs.Count.{tabulate}
use Rattle.counting.proofs.Lists.{length_tabulate, get_or_tabulate}
use Rattle.counting.proofs.Parts.{sets_append}
use Rattle.text.specs.Text.{Line}
use Rattle.text.specs.UpperCase.{upper_case}
use Rattle.header.specs.Editions.{edition2, second_digits, line_digits, line_bytes}
use Rattle.frame_lines.specs.Lines.{card_at, second_at}
use Rattle.ticket.specs.Print.{line_texts}
use Rattle.ticket.proofs.Written.{line_back}
use Rattle.ticket.proofs.Again.{lines_long}
use Rattle.merged_lines.specs.Merge.{Frame, frame_at, second_in}
use Rattle.merged_lines.specs.Lines.{frames_in}
use Rattle.merged_lines.proofs.Merging.{frames_length, frame_at_is}

-- the frames of the lines of a part
module _ (s : List ℕ) (n : ℕ) where
  pub framed_length : length (frames_in s n) ≡ n
  framed_length =
      frames_length (tabulate n (card_at edition2 s)) (tabulate n (second_at edition2 s))
      (length_tabulate n (second_at edition2 s) ∙ sym (length_tabulate n (card_at edition2 s)))
      ∙ length_tabulate n (card_at edition2 s)

  pub framed_at : (i : ℕ) → i < n → frame_at (frames_in s n) i ≡ record { second = second_at edition2 s i; card = card_at edition2 s i }
  framed_at i l =
      let cards = tabulate n (card_at edition2 s) in
      let seconds = tabulate n (second_at edition2 s) in
      frame_at_is cards seconds i (omega (arith, l, length_tabulate n (card_at edition2 s)))
      (length_tabulate n (second_at edition2 s) ∙ sym (length_tabulate n (card_at edition2 s)))
      ∙ rw (get_or_tabulate n (second_at edition2 s) i 0 l, get_or_tabulate n (card_at edition2 s) i 0 l)

  pub second_framed : (i : ℕ) → i < n → second_in (frames_in s n) i ≡ second_at edition2 s i
  second_framed i l = ap (λ (f : Frame). f.second) (framed_at i l)

-- the first k lines of a list of frames, and one more
module _ (all : List Frame) where
  abbrev pub lines : ℕ → List ℕ
  lines k = line_texts edition2 (map (λ f. f.card) all) (map (λ f. f.second) all) k

  abbrev no_frame : Frame
  no_frame = record { second = 0; card = 0 }

  pub no_lines : (l : List ℕ) (at : ℕ) → l ≡ sets l at (lines 0)
  unfolding line_texts
  no_lines l at = refl

  pub one_line :
      (l x y s : List ℕ) (at k i : ℕ) → x ≡ sets l at (lines k)
      → y ≡ sets x (at + 11 * k) (take 11 (drop (11 * i) (upper_case s)))
      → Line s (line_bytes edition2 * i) (line_digits edition2)
      → frame_at all k ≡ record { second = second_at edition2 s i; card = card_at edition2 s i }
      → y ≡ sets l at (lines (k + 1))
  unfolding line_texts second_digits
  one_line l x y s at k i e f its_line its-frame =
      let card : get_or (map (λ f. f.card) all) k 0 ≡ card_at edition2 s i =
      get_or-map (λ f. f.card) all k no_frame ∙ ap (λ (f : Frame). f.card) its-frame in
      let second : get_or (map (λ f. f.second) all) k 0 ≡ second_at edition2 s i =
      get_or-map (λ f. f.second) all k no_frame ∙ ap (λ (f : Frame). f.second) its-frame in
      rw (add-one k, f, e, card, second, line_back edition2 s i its_line)
      (sets_append l at (lines k) (take 11 (drop (11 * i) (upper_case s))) (at + 11 * k)
      (omega (arith, lines_long edition2 (map (λ f. f.card) all) (map (λ f. f.second) all) k)))
