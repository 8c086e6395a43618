use Rattle.std.proofs.Common.{arith, refl}
use Rattle.lines.proofs.Takes.{took_inside}
use Rattle.lines.proofs.next.Goals as goal

pub returns-then-s-clause-next : goal.returns-then-s-clause-next
returns-then-s-clause-next g c =
    let took = c.take.ensures.took in
    record {
      inside = took_inside c.requires.0 c.requires.1 took;
      fewer = omega (arith, took.left, c.requires.1);
      took = λ h. (refl, took);
      read = λ e. absurd (omega (arith, e, c.if-s.true));
    }
