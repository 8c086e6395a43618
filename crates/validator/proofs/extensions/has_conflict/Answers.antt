-- By what the calls over the numbers below 8 told.
-- Assumes nothing.
use Rattle.intervals.specs.Stored.{members}
use Rattle.std.proofs.Common.{rules, tests}
use Rattle.std.proofs.lemmas.Iterator.{cases_from_any, YieldsList-from_range}
use Rattle.validator.proofs.Walks.{any_in_range, some_nil}
use Rattle.validator.specs.Validator.{conflict_at, is_nil}
use mathlib.Core.Bool.{true, false}
use mathlib.Core.Path.{◌≡◌, refl}
use Rattle.validator.proofs.extensions.has_conflict.Goals as goal

pub returns : goal.returns
returns c =
    let f = conflict_at (members c.args.set) in
    any_in_range f 8 c.any.result
    (cases_from_any _ _ _ (λ x. is_nil (f x) ≡ false) (λ x. is_nil (f x) ≡ true) c.any.ensures.ran (YieldsList-from_range 0 8 8 refl refl)
    (λ x q k. search (rules, tests, some_nil)) (λ x q k. search (rules, tests, some_nil)))
