use Rattle.columns.proofs.Columns.{put_next}
use Rattle.columns.proofs.put_all.Goals as goal

pub loop-number-preserved : goal.loop-number-preserved
loop-number-preserved c = put_next _ _ _ _ _ _ _ _ c.loop-number-test.true c.loop-number.invariant c.put.ensures
