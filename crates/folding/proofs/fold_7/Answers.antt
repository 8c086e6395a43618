-- Nothing is folded yet, and each turn takes one token more.
use native.Mathlib.Omega.{arith}
use Rattle.folding.proofs.Turns.{folding_start, folding_step}
use Rattle.folding.proofs.fold_7.Goals as goal

pub loop-i-init : goal.loop-i-init
loop-i-init c = let z = c.default-o.ensures in folding_start _ _ _ _ z.0 z.1.0 z.1.1

pub loop-i-preserved : goal.loop-i-preserved
loop-i-preserved c = folding_step _ _ (omega arith) c.loop-i.invariant c.step-o.ensures
