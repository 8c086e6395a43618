-- The invariant: the tokens from j on stand one place further.
-- Assumes nothing.
use Rattle.lexer.proofs.Shifts.{Shifting}
use Rattle.lexer.proofs.insert.Given as goal

abbrev pub invariant-loop-j : goal.invariant-loop-j
invariant-loop-j l = Shifting l.place l.n l.initial.tokens l.tokens l.j
