-- No spelling is longer than 112 bytes.
use Rattle.std.proofs.Common.{arith}
use Rattle.nophtris.proofs.Answers.{spelled-few}
use Rattle.nophtris.proofs.nophtris_write.Goals as goal

pub overflow_cast-size : goal.overflow_cast-size
overflow_cast-size c = omega (arith, spelled-few _ _ c.in-Ok.ensures)
