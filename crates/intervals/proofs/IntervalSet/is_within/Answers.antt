-- A number of 32 digits is below 2 ^ 23 when it has no digit from 23 on.
-- Assumes nothing.
use native.Mathlib.Omega.{arith}
use Rattle.intervals.proofs.Whole.{within-at}
use Rattle.intervals.proofs.IntervalSet.is_within.Goals as goal

pub returns : goal.returns
returns c = within-at c.args.self (omega arith)
