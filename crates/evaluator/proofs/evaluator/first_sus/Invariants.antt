-- The invariant: the first sus is that of the rest.
use Rattle.display.specs.Display.{first_sus}
use lib.ListN.{drop}
use mathlib.Core.Path.{◌≡◌}
use Rattle.evaluator.proofs.evaluator.first_sus.Given as goal

abbrev pub invariant-loop-e : goal.invariant-loop-e
invariant-loop-e l = first_sus l.exps ≡ first_sus (drop l.e-index l.exps)
