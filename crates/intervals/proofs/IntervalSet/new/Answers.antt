-- The number 0 has no digit that is a 1.
-- Assumes nothing.
use Rattle.intervals.proofs.Store.{none-at}
use Rattle.intervals.specs.Stored.{members}
use Rattle.intervals.proofs.IntervalSet.new.Goals as goal

pub returns : goal.returns
unfolding members
returns c = λ x k. none-at k x
