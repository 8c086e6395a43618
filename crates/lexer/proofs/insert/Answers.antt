-- A turn moves the token before j up to j; at the end the place holds the token.
use Rattle.std.proofs.Common.{refl, arith}
use Rattle.lexer.proofs.Shifts.{shifting_step, shifting_end}
use Rattle.lexer.proofs.insert.Goals as goal

pub loop-j-preserved : goal.loop-j-preserved
loop-j-preserved c = shifting_step (omega arith) (omega arith) c.loop-j-test.true c.loop-j.invariant refl

pub returns : goal.returns
returns c = shifting_end (omega arith) c.loop-j-test.false c.loop-j.invariant refl
