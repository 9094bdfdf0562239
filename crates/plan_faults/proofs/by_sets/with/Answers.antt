-- What the check leaves to say of `by_sets::with`.
use native.Mathlib.Omega.{arith}
use Rattle.plan_faults.proofs.Sets.{set_fits, one_shifted}
use Rattle.plan_faults.proofs.by_sets.with.Goals as goal

pub overflow_add-result : goal.overflow_add-result
overflow_add-result c =
    let args = c.args in
    let shifted = one_shifted 32 args.card c.requires.0 in
    let fits = set_fits 32 args.set args.card (omega arith) c.requires.0 c.requires.1 in
    omega (arith, shifted, fits)
