-- The frames of an accepted ticket of edition 02 are those of its lines.
-- Assumes nothing.
use Prim.Native.Nat.{ℕ}
use mathlib.Core.Path.{◌≡◌, sym, ap, ◌∙◌}
use mathlib.Core.List.{List}
use native.Mathlib.Omega.{arith}
use lib.ListN.{length}
use Rattle.counting.specs.Count.{tabulate}
use Rattle.header.specs.Editions.{edition2}
use Rattle.header.specs.Heading.{edition_of}
use Rattle.header.specs.declared.Header.{Header}
use Rattle.frame_lines.specs.Lines.{card_at, second_at}
use Rattle.ticket.specs.Grounds.{part}
use Rattle.ticket.specs.Seconds.{how_many_seconds, seconds_of}
use Rattle.ticket.specs.Ticket.{accepted, parse}
use Rattle.ticket.proofs.Accepted.{row, as_many, its_edition, its_line}
use Rattle.ticket.proofs.Seconds.{seconds_are, as_frames}
use Rattle.merged_lines.specs.Merge.{frames}
use Rattle.merged_lines.specs.Lines.{HasLines, frames_in}
use Rattle.merged_lines.proofs.Framed.{framed_length}

module _ (t : List ℕ) (h : Header) (cards : List ℕ) (e : parse t ≡ accepted h cards) (two : h.edition ≡ edition2) where
  its_cards : cards ≡ tabulate h.frames (card_at edition2 (part t))
  its_cards =
      let edition : edition2 ≡ edition_of t = sym two ∙ its_edition t h cards e in
      rw (edition, (row t h cards e).its_header) (row t h cards e).its_cards

  its_seconds : seconds_of t ≡ tabulate h.frames (second_at edition2 (part t))
  its_seconds =
      let count : how_many_seconds h.edition (length cards) ≡ h.frames = as_frames h.edition (length cards) two ∙ as_many t h cards e in
      seconds_are t h cards e ∙ rw (count, two)

  pub its_frames : frames cards (seconds_of t) ≡ frames_in (part t) h.frames
  its_frames = rw (its_cards, its_seconds)

  pub frames_many : length (frames cards (seconds_of t)) ≡ h.frames
  frames_many = ap length its_frames ∙ framed_length (part t) h.frames

  pub has_lines : HasLines (part t) h.frames
  has_lines i l =
      rw two at (its_line t h cards e i (omega (arith, l, as_many t h cards e)))
