-- `or` with a power of two adds one digit, to the low or to the high number.
-- Assumes nothing.
use Rattle.keys.proofs.Sets.{insert-low, insert-high}
use Rattle.keys.specs.Stored.{members}
use Rattle.intervals.specs.Interval as Interval
use Rattle.keys.proofs.Keys.insert.Goals as goal

pub returns-then-key-lt64 : goal.returns-then-key-lt64
unfolding members Interval.insert
returns-then-key-lt64 c =
    let a = c.args in
    λ x k. insert-low a.self.low a.self.high a.key k c.if-key-lt64.true x

pub returns-else-key-lt64 : goal.returns-else-key-lt64
unfolding members Interval.insert
returns-else-key-lt64 c =
    let a = c.args in
    λ x k. insert-high a.self.low a.self.high a.key k c.if-key-lt64.false c.requires x
