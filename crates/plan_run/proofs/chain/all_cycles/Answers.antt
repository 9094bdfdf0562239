-- What the check leaves to say of `chain::all_cycles`.
use native.Mathlib.Omega.{arith}
use Rattle.plan_run.proofs.Chains.{small_plan, unlinked}
use Rattle.plan_run.proofs.chain.all_cycles.Goals as goal

pub link-requires : goal.link-requires
link-requires c =
    (small_plan _ c.args.plan.few c.requires (omega (arith, c.if-last-gt-MAX_FRAMES.false)), unlinked)

pub invariant_of-linked-clause-small : goal.invariant_of-linked-clause-small
invariant_of-linked-clause-small c = small_plan _ c.args.plan.few c.requires (omega (arith, c.if-last-gt-MAX_FRAMES.false))
