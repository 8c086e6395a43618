-- One byte more is put, behind those before.
use Rattle.std.proofs.Common.{◌∙◌, arith, rules}
use Rattle.output.proofs.Puts.{put_as, put_from, put_next}
use Rattle.output.proofs.Output.put_bytes.Goals as goal

pub loop-byte-preserved : goal.loop-byte-preserved
loop-byte-preserved c =
    let put = put_from (omega arith) (put_as (search rules) c.put.ensures.put) in
    (put_next _ _ c.loop-byte-test.true c.loop-byte.invariant.0 put, c.put.ensures.same_reference ∙ c.loop-byte.invariant.1)
