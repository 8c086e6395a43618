-- The digit that the set and a power of two both have is taken out; `remove-at` says what that is at each member.
-- Assumes nothing.
use Rattle.intervals.proofs.Store.{remove-at}
use Rattle.intervals.specs.Stored.{members}
use Rattle.intervals.specs.Interval as Interval
use Rattle.intervals.proofs.IntervalSet.remove.Goals as goal

pub returns : goal.returns
unfolding members Interval.remove
returns c =
    let a = c.args in
    λ x k. remove-at a.self.bits a.interval c.requires k x
