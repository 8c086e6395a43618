-- With no fault of an extension, the errors are those of the pairs.
-- Assumes nothing.
use Rattle.intervals.specs.Stored.{members}
use Rattle.std.proofs.Common.{rules}
use Rattle.expression.proofs.Wrote.{gained_as}
use Rattle.expression.specs.declared.parser_error.ParserError.{ParserError}
use Rattle.validator.specs.Validator.{all_from, conflict_at, or_else}
use mathlib.Core.List.{List}
use mathlib.Core.Path.{ap}
use Rattle.validator.proofs.extensions.validate_extensions.Goals as goal

pub returns-in-None : goal.returns-in-None
returns-in-None c =
    let f = conflict_at (members c.args.set) in
    (gained_as (ap (λ (q : List ParserError). or_else q (all_from f 8 0)) c.in-None.ensures) (c.push_each.ensures.gained f (λ i r l p. search rules)), c.push_each.ensures.count)
