-- By what the last intervals are.
-- Assumes nothing.
use Rattle.intervals.specs.Stored.{members}
use Rattle.std.proofs.Common.{rules}
use Rattle.expression.proofs.Wrote.{gained_as}
use Rattle.validator.proofs.Walks.{semitones-same}
use Rattle.validator.specs.State.{last_at, neighbours_in}
use Rattle.validator.proofs.semitones.validate_semitones.Goals as goal

pub returns : goal.returns
returns c =
    let last = last_at c.last_of_class-lasts.result in
    (gained_as (semitones-same last (members c.args.set) c.last_of_class-lasts.ensures) (c.push_each.ensures.gained (neighbours_in last) (λ i r l p. search rules)), c.push_each.ensures.count)
