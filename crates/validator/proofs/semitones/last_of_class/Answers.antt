-- The invariant: the last of each class below i. A turn leaves the array as it is, or is one store, by whether the interval is in the set.
-- Assumes nothing.
use Prim.Native.Nat.{ℕ}
use Rattle.intervals.specs.Stored.{members}
use Rattle.std.proofs.Common.{arith}
use Rattle.std.proofs.lemmas.Grind.{common_steps}
use Rattle.validator.proofs.Walks.{last_step}
use Rattle.validator.specs.State.{last_in}
use lib.ListN.{length-set}
use mathlib.Core.Path.{◌≡◌, ap, ◌∙◌}
use Rattle.validator.proofs.semitones.last_of_class.Goals.{then-contains, else-contains}
use Rattle.validator.proofs.semitones.last_of_class.Goals as goal

pub loop-i-preserved : goal.loop-i-preserved
loop-i-preserved c =
    let v = c.loop-i.invariant in
    elim c.if-contains.branch [
      | then-contains w ↦ rw w.lasts-is (simp length-set v.0, λ k h. grind (arith, common_steps, last_step, v.1 k h))
      | else-contains w ↦ rw w.lasts-is (v.0, λ k h. grind (arith, common_steps, last_step, v.1 k h))
    ]

pub returns : goal.returns
returns c =
    let e : c.loop-i.i ≡ 23 = omega (arith, c.loop-i-test.false) in
    λ k h. c.loop-i.invariant.1 k h ∙ ap (λ (n : ℕ). last_in n (members c.args.set) k) e
