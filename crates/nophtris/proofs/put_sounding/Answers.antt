-- Sixteen bytes, each the set's.
use Rattle.std.proofs.Common.{◌<◌, sym, ◌∙◌, arith}
use Rattle.std.proofs.lemmas.List.{ext_get_or}
use Rattle.keys.proofs.Octets.{keys-at}
use Rattle.keys.specs.Stored.{members}
use Rattle.nophtris.proofs.put_sounding.Goals as goal

pub returns : goal.returns
returns c =
    let v = c.loop-i.invariant in
    ext_get_or 0 _ _ v.0 (λ k h. let l : k < 16 = omega (arith, h, v.0) in v.1 k (omega (arith, l)) ∙ sym (keys-at (members c.args.keys) k l))
