-- The measure is the count of calls that may follow.
-- Assumes nothing.
use Rattle.show.proofs.show_lines.Given as goal

abbrev pub decreases-loop-lines : goal.decreases-loop-lines
decreases-loop-lines g l = l.lines.input.left
