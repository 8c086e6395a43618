-- The numbers 0 and 0 have no digit that is a 1.
-- Assumes nothing.
use Rattle.keys.proofs.Sets.{none-at}
use Rattle.keys.specs.Stored.{members}
use Rattle.keys.proofs.Keys.new.Goals as goal

pub returns : goal.returns
unfolding members
returns c = λ x k. none-at k x
