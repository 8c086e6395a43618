-- What a turn appends stands behind what the turns before it appended.
use Rattle.std.proofs.Common.{arith, length, drop, length-drop, ◌-◌, ◌≡◌}
use Rattle.std.proofs.KnownBytes.{Appends-trans}
use Rattle.std.proofs.lemmas.List.{take_rest}
use Rattle.std.proofs.Math.Seq.{take-add}
use Rattle.output.proofs.write_all.Goals as goal

pub loop-at-preserved : goal.loop-at-preserved
loop-at-preserved g c =
    let bytes = c.args.bytes.now in
    let at = c.loop-at.at in
    let room : length (drop at bytes) ≡ length bytes - at = length-drop at bytes in
    let bound = rw take_rest at c.in_ok-n.ensures.bound in
    let turn = rw take_rest at c.in_ok-n.ensures.bytes in
    (omega (arith, bound), rw take-add (Appends-trans _ _ _ _ _ c.loop-at.invariant.1 turn))
