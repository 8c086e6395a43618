-- The slice has the number if one of its numbers is equal to it.
use mathlib.Core.Path.{◌∙◌, ap}
use Rattle.intervals.specs.Interval.{elem}
use Rattle.house_parts.proofs.Tests.{elem_any}
use Rattle.house_parts.proofs.kind.shows.Goals as goal

pub returns : goal.returns
returns c = c.contains.ensures.value ∙ elem_any c.args.interval _ ∙ ap (elem c.args.interval) c.as_slice.ensures
