-- The invariant: what the first i parts write stands behind what stood in the buffer when the loop began.
use Rattle.intervals.specs.Stored.{members}
use Rattle.writer.proofs.Parts.{so_far}
use Rattle.writer.specs.State.{Grew}
use Rattle.writer.proofs.spelling.put_parts.Given as goal

abbrev pub invariant-loop-i : goal.invariant-loop-i
invariant-loop-i l = Grew l.initial.out l.out (so_far (members l.set) l.k l.i)
