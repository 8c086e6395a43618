-- The invariant: the set is that after the expressions so far.
use Rattle.expression.specs.declared.expression.Exp.{Exp}
use Rattle.intervals.specs.Interval.{Set}
use Rattle.intervals.specs.Stored.{members}
use Rattle.evaluator.specs.Evaluator.{fold_left}
use Rattle.evaluator.specs.State.{Changes}
use lib.ListN.{take}
use mathlib.Core.Path.{◌≡◌}
use Rattle.evaluator.proofs.evaluator.apply_pass.Given as goal

abbrev pub invariant-loop-e : goal.invariant-loop-e
invariant-loop-e g l = (f : Set → Exp → Set) → Changes (goal.F-post g l.change) f → members l.s ≡ fold_left f (members l.initial.s) (take l.e-index l.exps)
