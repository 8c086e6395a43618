-- Where one of kind k waits there is a latest one; else the token comes last.
use mathlib.Core.Path.{refl}
use native.Mathlib.Omega.{arith}
use Rattle.folding.proofs.Counts.{count_none}
use Rattle.folding.proofs.Places.{joined-last, joined_pair}
use Rattle.folding.proofs.join.Goals as goal
use Rattle.folding.proofs.join.Goals.{then-waiting-gt0+in_default, else-waiting-gt0}

pub returns-in-Some : goal.returns-in-Some
returns-in-Some c =
    joined_pair c.in-Some.j c.in-Some.ensures.0 (omega arith) c.if-waiting-gt0.true c.in-Some.ensures.1 c.in-Some.ensures.2 c.pair.ensures

pub returns : goal.returns
returns c =
    elim c.if-waiting-gt0.branch [
      | then-waiting-gt0+in_default w ↦ absurd (omega (arith, count_none c.args.k _ w.in_default.ensures))
      | else-waiting-gt0 w ↦ joined-last (omega arith) (omega arith) c.requires.waiting_count refl
    ]
