-- At each place the bar looked for is bar `left` of what is left of the line (`Passing`).
-- Assumes nothing.
use mathlib.Core.Path.{sym, subst}
use Prim.Native.Nat.{◌+◌}
use native.Mathlib.Omega.{arith}
use Rattle.endings.proofs.Starts.{Passing, passing_first, passing_other, passing_stroke, passed_all, passed_to}
use Rattle.endings.proofs.start_of.Goals as goal
use Rattle.endings.proofs.start_of.Goals.{then-b-eq-STROKE, else-b-eq-STROKE}

pub loop-i-init : goal.loop-i-init
loop-i-init c = passing_first _ _

pub returns-then-left-eq0 : goal.returns-then-left-eq0
returns-then-left-eq0 c = passed_to _ _ _ _ c.if-left-eq0.true c.loop-i.invariant

pub loop-i-preserved : goal.loop-i-preserved
loop-i-preserved c =
    let i = c.loop-i.i in
    elim c.if-b-eq-STROKE.branch [
      | then-b-eq-STROKE w ↦ subst (Passing _ _ (i + 1)) (sym w.left-is)
          (passing_stroke _ _ i _ (omega arith) c.loop-i-test.true c.loop-i.invariant w.if-b-eq-STROKE.true)
      | else-b-eq-STROKE w ↦ subst (Passing _ _ (i + 1)) (sym w.left-is)
          (passing_other _ _ i _ (omega arith) c.loop-i-test.true c.loop-i.invariant w.if-b-eq-STROKE.false)
    ]

pub returns-then-left-eq0-2 : goal.returns-then-left-eq0-2
returns-then-left-eq0-2 c =
    let p = passed_to _ _ _ _ c.if-left-eq0-2.true c.loop-i.invariant in
    (p.0, omega (arith, p.1, c.loop-i.invariant.within))

pub returns-else-left-eq0-2 : goal.returns-else-left-eq0-2
returns-else-left-eq0-2 c = passed_all _ _ _ _ (omega arith) (omega arith) c.loop-i.invariant
