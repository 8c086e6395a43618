-- The invariant: what is found from here on, with what was seen, is what is found at all.
-- Assumes nothing.
use Rattle.intervals.specs.Stored.{members}
use Rattle.intervals.specs.Interval.{empty}
use Rattle.validator.specs.Validator.{extension_fault}
use lib.ListN.{drop}
use mathlib.Core.Path.{◌≡◌}
use Rattle.validator.proofs.extensions.first_fault.Given as goal

abbrev pub invariant-loop-e : goal.invariant-loop-e
invariant-loop-e l = extension_fault empty l.exps ≡ extension_fault (members l.seen) (drop l.e-index l.exps)
