-- A spot's end is not before its start.
use Rattle.endings.proofs.Spots.{spot-ordered}
use Rattle.nophtris.proofs.nophtris_bar.Goals as goal

pub overflow_sub-size : goal.overflow_sub-size
overflow_sub-size c = spot-ordered _ _ _ c.spot_of-spot.ensures
