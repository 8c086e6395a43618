-- The invariant: what the expressions so far say.
use Rattle.evaluator.specs.State.{Described}
use lib.ListN.{take}
use Rattle.evaluator.proofs.evaluator.evaluate_expressions.Given as goal

abbrev pub invariant-loop-e : goal.invariant-loop-e
invariant-loop-e l = Described (take l.e-index l.exps) l.d
