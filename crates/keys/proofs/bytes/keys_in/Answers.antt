-- The first eight bytes are the low number, the others the high one.
-- Assumes nothing.
use Rattle.keys.proofs.Octets.{keys_told}
use Rattle.keys.proofs.bytes.keys_in.Goals as goal

pub returns : goal.returns
returns c =
    let a = c.args in
    let l = c.word_in in
    let h = c.word_in-2 in
    λ x k. keys_told a.bytes.now (record { low = l.result; high = h.result }) l.ensures h.ensures k x
