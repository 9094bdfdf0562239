-- What the check leaves to say of `key_at`.
use native.Mathlib.Omega.{arith}
use mathlib.Core.Path.{◌∙◌}
use Rattle.merged_lines.proofs.Keys.{key_here, key_past}
use Rattle.merged_lines.proofs.OneLine.{second_digits_at}
use Rattle.merged_lines.proofs.key_at.Goals as goal

pub upper_eight-requires : goal.upper_eight-requires
upper_eight-requires c =
    let line = c.requires.1 (omega arith) in
    (omega (arith, line.inside), second_digits_at _ c.args.from line)

pub returns-then-from-end : goal.returns-then-from-end
returns-then-from-end c =
    c.upper_eight.ensures ∙ key_here _ _ c.args.from (omega arith)

pub returns : goal.returns
returns c = key_past _ _ c.args.from (omega arith)
