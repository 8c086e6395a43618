-- What the two calls ensure, the last one first.
-- Assumes nothing.
use Rattle.intervals.proofs.IntervalSet.remove_then_add.Goals as goal

pub returns : goal.returns
returns c = rw (c.insert.ensures, c.remove.ensures)
