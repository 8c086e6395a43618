-- At each place the bar looked for is bar `left` of what is left of the line (`Passing`).
use Rattle.endings.proofs.Starts.{Passing}
use Rattle.endings.proofs.start_of.Given as goal

abbrev pub invariant-loop-i : goal.invariant-loop-i
invariant-loop-i l = Passing l.line l.number l.i l.left
