-- `or` with a power of two adds one digit; `insert-at` says what that is at each member.
-- Assumes nothing.
use Rattle.intervals.proofs.Store.{insert-at}
use Rattle.intervals.specs.Stored.{members}
use Rattle.intervals.specs.Interval as Interval
use Rattle.intervals.proofs.IntervalSet.insert.Goals as goal

pub returns : goal.returns
unfolding members Interval.insert
returns c =
    let a = c.args in
    λ x k. insert-at a.self.bits a.interval c.requires k x
