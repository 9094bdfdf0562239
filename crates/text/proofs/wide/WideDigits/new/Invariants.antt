-- What the loop of `WideDigits::new` keeps.
use Rattle.std.proofs.Common.{◌≡◌, ◌++◌, length}
use lib.ListN.{drop, replicate}
use Rattle.counting.specs.Count.{tabulate}
use Rattle.text.specs.Text.{digit}
use Rattle.text.specs.Wide.{no_number, wide}
use Rattle.text.proofs.wide.WideDigits.new.Given as goal

abbrev pub invariant-loop-b : goal.invariant-loop-b
invariant-loop-b l = (length l.value ≡ 256) × (l.value ≡ tabulate l.b (λ k. wide (digit k)) ++ drop l.b (replicate 256 no_number))
