-- What the loop of `DigitTexts::put` keeps.
use Rattle.std.proofs.Common.{◌≡◌, ◌+◌, ◌-◌, ◌/◌, ◌^◌}
use Rattle.std.proofs.lemmas.List.Edits.{sets}
use Rattle.text.specs.Hex.{hex}
use Rattle.text.proofs.write.DigitTexts.put.Given as goal

abbrev pub invariant-loop-k : goal.invariant-loop-k
invariant-loop-k g l = (l.rest ≡ l.v / 16 ^ (g.row.N - l.k)) × (l.out ≡ sets l.initial.out (l.at + l.k) (hex (g.row.N - l.k) l.v))
