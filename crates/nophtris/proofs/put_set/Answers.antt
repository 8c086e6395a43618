-- Each number's byte goes behind those before it; there is room for 23.
use Rattle.std.proofs.Common.{◌≡◌, ℕ, Bool, cond, ap, ◌∙◌, [], ◌∷◌, ◌++◌, arith}
use Rattle.intervals.specs.Stored.{members}
use Rattle.nophtris.specs.Boundary.{set_bytes}
use Rattle.nophtris.proofs.Bytes.{byte_is, set-length, set_next}
use Rattle.writer.proofs.Puts.{grew_as, grew_none, grew_then}
use Rattle.nophtris.proofs.put_set.Goals as goal

pub loop-i-init : goal.loop-i-init
loop-i-init c = grew_none _

pub put-requires : goal.put-requires
put-requires c =
    let w = c.loop-i.invariant in
    omega (arith, set-length c.loop-i.i 0 (members c.args.set), w.put.count, w.size, c.requires)

pub loop-i-preserved : goal.loop-i-preserved
loop-i-preserved c =
    let s = members c.args.set in
    let i = c.loop-i.i in
    let b = c.from.ensures ∙ byte_is _ ∙ ap (λ (t : Bool). cond t 1 0) c.contains.ensures in
    grew_as (ap (λ (x : ℕ). set_bytes i 0 s ++ (x ∷ [])) b ∙ set_next i s) (grew_then c.loop-i.invariant c.put.ensures)

pub returns : goal.returns
returns c =
    let e : c.loop-i.i ≡ 23 = omega arith in
    grew_as (ap (λ (n : ℕ). set_bytes n 0 (members c.args.set)) e) c.loop-i.invariant
