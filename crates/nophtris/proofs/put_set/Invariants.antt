-- The invariant: the bytes of the first i numbers are written.
use Rattle.intervals.specs.Stored.{members}
use Rattle.writer.specs.State.{Grew}
use Rattle.nophtris.specs.Boundary.{set_bytes}
use Rattle.nophtris.proofs.put_set.Given as goal

abbrev pub invariant-loop-i : goal.invariant-loop-i
invariant-loop-i l = Grew l.initial.out l.out (set_bytes l.i 0 (members l.set))
