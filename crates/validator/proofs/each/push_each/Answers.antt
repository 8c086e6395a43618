-- The invariant: what was found below i is written. A turn writes what was found at i, if anything.
-- Assumes nothing.
use Rattle.std.specs.declared.option.Option.TheVariants.{None, Some}
use Rattle.expression.proofs.Wrote.{gained_none, gained_as}
use Rattle.validator.proofs.Walks.{all_start, gained_more}
use Rattle.validator.specs.Validator.{all_from}
use Prim.Native.Nat.{ℕ}
use mathlib.Core.Path.{◌≡◌, refl, ap, ◌∙◌}
use native.Mathlib.Omega.{arith}
use Rattle.validator.proofs.each.push_each.Goals.{in-Some, in_default}
use Rattle.validator.proofs.each.push_each.Goals as goal

pub loop-i-init : goal.loop-i-init
loop-i-init g c = record { gained = λ f h. gained_as (all_start f) (gained_none _); count = omega arith; size = refl }

pub push-requires : goal.push-requires
push-requires g c = omega (arith, c.loop-i.invariant.count, c.loop-i.invariant.size, c.loop-i-test.true, c.requires.room)

pub loop-i-preserved : goal.loop-i-preserved
loop-i-preserved g c =
    let v = c.loop-i.invariant in
    let i = c.loop-i.i in
    elim c.match-at.branch [
      | in-Some w ↦ rw w.errors-is (record {
        gained = λ f h. gained_more f i (v.gained f h) (gained_as (h i (Some w.in-Some.e) c.loop-i-test.true w.in-Some.ensures) w.push.ensures);
        count = omega (arith, v.count, w.push.ensures.wrote.count);
        size = w.push.ensures.size ∙ v.size;
      })
      | in_default w ↦ rw w.errors-is (record {
        gained = λ f h. gained_more f i (v.gained f h) (gained_as (h i None c.loop-i-test.true w.in_default.ensures) (gained_none _));
        count = omega (arith, v.count);
        size = v.size;
      })
    ]

pub returns-clause-gained : goal.returns-clause-gained
returns-clause-gained g c = λ f h.
    let e : c.loop-i.i ≡ c.args.n = omega (arith, c.loop-i-test.false) in
    gained_as (ap (λ (k : ℕ). all_from f k 0) e) (c.loop-i.invariant.gained f h)
