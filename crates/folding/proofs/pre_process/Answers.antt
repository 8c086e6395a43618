-- Where there is no 7 the tokens stay as they are; else the three turns, one after the other.
use mathlib.Core.Path.{sym}
use native.Mathlib.Omega.{arith}
use lib.Seq.{take-length}
use Rattle.folding.proofs.Calm.{no_seven}
use Rattle.folding.proofs.Places.{latest_none}
use Rattle.folding.proofs.pre_process.Goals as goal

pub returns-then-is_none : goal.returns-then-is_none
returns-then-is_none c =
    record { fewer = omega arith; folded = rw take-length (sym (no_seven _ (latest_none _ _ _ c.if-is_none.ensures c.latest.ensures))) }
