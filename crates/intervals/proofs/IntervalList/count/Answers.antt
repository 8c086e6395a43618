-- The length of what is taken of 23 numbers.
use Rattle.std.proofs.Common.{◌≡◌, arith, length, length-take}
use Rattle.intervals.specs.Stored.{listed}
use Rattle.intervals.proofs.IntervalList.count.Goals as goal

pub returns : goal.returns
unfolding listed
returns c = let h : length c.args.self.numbers ≡ 23 = c.well_formed.0.1.1.0.1.0.1 in simp length-take (omega arith)
