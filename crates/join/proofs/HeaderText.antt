-- A header put into a list: the stores one after another are one run of stores (`sets`).
-- Assumes nothing.
use Prim.Native.Nat.{ℕ}
use mathlib.Core.Path.{◌≡◌, ◌∙◌}
use mathlib.Core.List.{List, ◌++◌, append_assoc}
use native.Mathlib.Omega.{arith}
use lib.ListN.{length, set, length-append}
use lib.Seq.{sets}
use Rattle.counting.proofs.Parts.{sets_append, sets_length}
use Rattle.text.specs.Hex.{hex, end_of_line}
use Rattle.text.specs.Text.{end_byte}
use Rattle.text.proofs.Hex.{length_hex}
use Rattle.header.specs.Heading.{header_bytes}
use Rattle.header.specs.declared.Header.{Header}
use Rattle.ticket.specs.Print.{header_text}

-- a list, and what it is after each field
module _ (h : Header) (l x1 x2 x3 x4 x5 : List ℕ)
    (e1 : x1 ≡ sets l 0 (hex 2 h.edition))
    (e2 : x2 ≡ sets x1 2 (hex 2 h.mode))
    (e3 : x3 ≡ sets x2 4 (hex 2 h.cards))
    (e4 : x4 ≡ sets x3 6 (hex 4 h.pool))
    (e5 : x5 ≡ sets x4 10 (hex 4 h.frames)) where
  pub header_length : length x5 ≡ length l
  header_length =
      sets_length x4 x5 10 (hex 4 h.frames) e5
      ∙ sets_length x3 x4 6 (hex 4 h.pool) e4
      ∙ sets_length x2 x3 4 (hex 2 h.cards) e3
      ∙ sets_length x1 x2 2 (hex 2 h.mode) e2
      ∙ sets_length l x1 0 (hex 2 h.edition) e1

  abbrev a : List ℕ
  a = hex 2 h.edition

  abbrev b : List ℕ
  b = hex 2 h.mode

  abbrev c : List ℕ
  c = hex 2 h.cards

  abbrev d : List ℕ
  d = hex 4 h.pool

  abbrev f : List ℕ
  f = hex 4 h.frames

  four : length (a ++ b) ≡ 4
  four = omega (arith, length-append a b, length_hex 2 h.edition, length_hex 2 h.mode)

  six : length ((a ++ b) ++ c) ≡ 6
  six = omega (arith, four, length-append (a ++ b) c, length_hex 2 h.cards)

  ten : length (((a ++ b) ++ c) ++ d) ≡ 10
  ten = omega (arith, six, length-append ((a ++ b) ++ c) d, length_hex 4 h.pool)

  fourteen : length ((((a ++ b) ++ c) ++ d) ++ f) ≡ 14
  fourteen = omega (arith, ten, length-append (((a ++ b) ++ c) ++ d) f, length_hex 4 h.frames)

  pub put_header : set x5 14 end_byte ≡ sets l 0 (header_text h)
  put_header =
      rw (
        e5,
        e4,
        e3,
        e2,
        e1,
        sets_append l 0 a b 2 (omega (arith, length_hex 2 h.edition)),
        sets_append l 0 (a ++ b) c 4 (omega (arith, four)),
        sets_append l 0 ((a ++ b) ++ c) d 6 (omega (arith, six)),
        sets_append l 0 (((a ++ b) ++ c) ++ d) f 10 (omega (arith, ten)),
        sets_append l 0 ((((a ++ b) ++ c) ++ d) ++ f) end_of_line 14 (omega (arith, fourteen)),
        append_assoc (((a ++ b) ++ c) ++ d) f end_of_line,
        append_assoc ((a ++ b) ++ c) d (f ++ end_of_line),
        append_assoc (a ++ b) c (d ++ (f ++ end_of_line)),
        append_assoc a b (c ++ (d ++ (f ++ end_of_line))),
      )

-- its bytes
pub length_of_header : (h : Header) → length (header_text h) ≡ header_bytes
length_of_header h =
    let from10 = hex 4 h.frames ++ end_of_line in
    let from6 = hex 4 h.pool ++ from10 in
    let from4 = hex 2 h.cards ++ from6 in
    omega (
      arith,
      length-append (hex 2 h.edition) (hex 2 h.mode ++ from4),
      length-append (hex 2 h.mode) from4,
      length-append (hex 2 h.cards) from6,
      length-append (hex 4 h.pool) from10,
      length-append (hex 4 h.frames) end_of_line,
      length_hex 2 h.edition,
      length_hex 2 h.mode,
      length_hex 2 h.cards,
      length_hex 4 h.pool,
      length_hex 4 h.frames,
    )
