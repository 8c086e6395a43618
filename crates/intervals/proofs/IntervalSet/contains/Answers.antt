-- The shift and the remainder are the digit that `members` names.
-- Assumes nothing.
use mathlib.Core.Bool.{Bool, ◌&&◌}
use mathlib.Core.Path.{sym, ap}
use native.Mathlib.Omega.{arith}
use borrow.Author.Tests.{lt-ltb}
use Rattle.intervals.specs.Stored.{bit, members}
use Rattle.intervals.proofs.IntervalSet.contains.Goals as goal

pub returns : goal.returns
unfolding members bit
returns c =
    let a = c.args in
    sym (ap (λ (t : Bool). t && bit a.self.bits a.interval) (lt-ltb a.interval 32 (omega (arith, c.requires))))
