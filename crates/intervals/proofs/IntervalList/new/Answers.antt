-- 23 zeros, and none of them is taken.
-- Assumes nothing.
use mathlib.Core.Path.{refl}
use Rattle.intervals.specs.Stored.{listed, list_of}
use Rattle.intervals.proofs.IntervalList.new.Goals as goal

pub returns : goal.returns
unfolding listed list_of
returns c = (refl, refl)
