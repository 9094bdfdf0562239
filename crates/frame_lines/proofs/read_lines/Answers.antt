-- What the check leaves to say of `read_lines`.
use Prim.Native.Nat.{ℕ, ◌*◌}
use mathlib.Core.Path.{sym, ap}
use native.Mathlib.Omega.{arith}
use lib.ListN.{length}
use Rattle.header.proofs.Widths.{widest}
use Rattle.header.specs.Editions.{line_bytes}
use Rattle.frame_lines.proofs.Faults.{part_9, part_0}
use Rattle.frame_lines.proofs.WholePart.{whole_lines, same_bytes, read_refused, all_pass, memory_read}
use Rattle.frame_lines.proofs.read_lines.Goals as goal

pub overflow_add-bytes : goal.overflow_add-bytes
overflow_add-bytes c = omega (arith, widest c.args.h.edition, c.line_digits-bytes.ensures)

pub returns-then-whole-n : goal.returns-then-whole-n
returns-then-whole-n c =
    let read = c.read_edition-before_end.ensures in
    let w = whole_lines c.args.h.edition (length c.args.s.now) c.line_digits-bytes.ensures in
    read_refused c.args.h.edition _ c.args.h.cards c.args.h.frames _ _ _ _ (omega arith) (λ l. omega (arith, w)) read c.not_passing.ensures
    (omega (arith, read.up_to))

pub returns-then-passing-n : goal.returns-then-passing-n
returns-then-passing-n c =
    let read = c.read_edition-passing.ensures in
    read_refused c.args.h.edition _ c.args.h.cards c.args.h.frames _ _ _ _ (omega arith) (λ l. absurd (omega arith)) read
    c.not_passing-then-passing-n.ensures (omega arith)

pub returns-then-bytes-n : goal.returns-then-bytes-n
returns-then-bytes-n c =
    let read = c.read_edition-passing.ensures in
    let b = same_bytes c.args.h.edition c.from-n.result c.line_digits-bytes.ensures in
    let n = ap (λ (x : ℕ). line_bytes c.args.h.edition * x) c.from-n.ensures in
    let all = all_pass c.args.h.edition _ c.args.h.cards c.args.h.frames _ _ _ _ (omega arith) (λ l. absurd (omega arith)) read (omega arith) in (
      sym (part_9 c.args.h.edition _ c.args.h.cards c.args.h.frames all (omega (arith, b, n))),
      memory_read c.args.h.edition _ c.args.h.cards c.args.h.frames _ _ _ _ (omega arith) (λ l. absurd (omega arith)) read,
    )

pub returns : goal.returns
returns c =
    let read = c.read_edition-passing.ensures in
    let b = same_bytes c.args.h.edition c.from-n.result c.line_digits-bytes.ensures in
    let n = ap (λ (x : ℕ). line_bytes c.args.h.edition * x) c.from-n.ensures in
    let all = all_pass c.args.h.edition _ c.args.h.cards c.args.h.frames _ _ _ _ (omega arith) (λ l. absurd (omega arith)) read (omega arith) in (
      sym (part_0 c.args.h.edition _ c.args.h.cards c.args.h.frames all (omega (arith, b, n))),
      memory_read c.args.h.edition _ c.args.h.cards c.args.h.frames _ _ _ _ (omega arith) (λ l. absurd (omega arith)) read,
    )
