use Prim.Native.Nat.{◌-◌}
use lib.ListN.{length}
use Rattle.folding.proofs.Wholes.{Joining}
use Rattle.folding.proofs.concat_maj7.Given as goal

abbrev pub invariant-loop-i : goal.invariant-loop-i
invariant-loop-i l = Joining l.initial.tokens l.tokens l.w l.i

abbrev pub decreases-loop-i : goal.decreases-loop-i
decreases-loop-i l = length l.initial.tokens - l.i
