use Rattle.std.proofs.Common.{◌∙◌}
use Rattle.output.proofs.Puts.{put_again}
use Rattle.output.proofs.Output.put_spaces.Goals as goal

pub loop-preserved : goal.loop-preserved
loop-preserved c = (put_again _ c.loop.invariant.0 c.put.ensures.put, c.put.ensures.same_reference ∙ c.loop.invariant.1)
