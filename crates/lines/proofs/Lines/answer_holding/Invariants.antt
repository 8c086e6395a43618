-- The measure is the count of calls that may follow.
use Rattle.lines.proofs.Lines.answer_holding.Given as goal

abbrev pub decreases-loop-self : goal.decreases-loop-self
decreases-loop-self g l = l.self.input.left
