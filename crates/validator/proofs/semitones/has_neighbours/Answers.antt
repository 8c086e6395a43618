-- By what the calls over the numbers below 12 told, and by what the last intervals are.
-- Assumes nothing.
use Rattle.intervals.specs.Stored.{members}
use Rattle.std.proofs.Common.{rules, tests}
use Rattle.std.proofs.lemmas.Iterator.{cases_from_any, YieldsList-from_range}
use Rattle.validator.proofs.Walks.{any_in_range, semitones-same, some_nil}
use Rattle.validator.specs.State.{last_at, neighbours_in}
use Rattle.validator.specs.Validator.{is_nil}
use mathlib.Core.Bool.{true, false, not}
use mathlib.Core.List.{List}
use mathlib.Core.Path.{◌≡◌, refl, ap, ◌∙◌}
use Rattle.expression.specs.declared.parser_error.ParserError.{ParserError}
use Rattle.validator.proofs.semitones.has_neighbours.Goals as goal

pub returns : goal.returns
returns c =
    let last = last_at c.last_of_class-lasts.result in
    let f = neighbours_in last in
    any_in_range f 12 c.any.result
    (cases_from_any _ _ _ (λ x. is_nil (f x) ≡ false) (λ x. is_nil (f x) ≡ true) c.any.ensures.ran (YieldsList-from_range 0 12 12 refl refl)
    (λ x q k. search (rules, tests, some_nil)) (λ x q k. search (rules, tests, some_nil)))
    ∙ ap (λ (l : List ParserError). not (is_nil l)) (semitones-same last (members c.args.set) c.last_of_class-lasts.ensures)
