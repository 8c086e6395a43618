-- A part that is named puts its text behind those before it, any other nothing; there is room for all.
use Rattle.std.proofs.Common.{◌≡◌, ℕ, sym, ap, ◌∙◌, arith, length}
use Rattle.intervals.specs.Stored.{members}
use Rattle.std.specs.declared.option.Option.TheVariants.{None}
use Rattle.writer.proofs.Parts.{so_far, so_far_none, so_far_all, so_far_text, so_far_same, text-room}
use Rattle.writer.proofs.Puts.{grew_none, grew_then, grew_as}
use Rattle.writer.proofs.spelling.put_parts.Goals as goal
use Rattle.writer.proofs.spelling.put_parts.Goals.{then-is_named, else-is_named}

pub loop-i-init : goal.loop-i-init
loop-i-init c = grew_as (sym (so_far_none (members c.args.set) c.args.k)) (grew_none _)

pub put_text-requires : goal.put_text-requires
put_text-requires c =
    let a = c.args in
    let w = c.loop-i.invariant in
    let r = text-room (members a.set) a.k c.loop-i.i (omega arith) (sym (c.if-is_named.ensures None)) in
    (omega arith, omega (arith, r, w.put.count, w.size, c.requires))

pub loop-i-preserved : goal.loop-i-preserved
loop-i-preserved c =
    let s = members c.args.set in
    let k = c.args.k in
    let i = c.loop-i.i in
    let w = c.loop-i.invariant in
    elim c.if-is_named.branch [
      | then-is_named v ↦
          rw v.out-is
          (grew_as (sym (so_far_text s k i (omega arith) (sym (v.if-is_named.ensures None)))) (grew_then w v.put_text.ensures))
      | else-is_named v ↦ rw v.out-is (grew_as (sym (so_far_same s k i (omega arith) (sym (v.if-is_named.ensures None)))) w)
    ]

pub returns : goal.returns
returns c =
    let e : c.loop-i.i ≡ 23 = omega arith in
    grew_as (ap (λ (i : ℕ). so_far (members c.args.set) c.args.k i) e ∙ so_far_all (members c.args.set) c.args.k) c.loop-i.invariant
