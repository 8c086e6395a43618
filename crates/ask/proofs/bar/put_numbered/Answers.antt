-- The bar lies in its line.
-- Assumes nothing.
use Rattle.endings.proofs.Spots.{spot-ordered}
use Rattle.ask.proofs.bar.put_numbered.Goals as goal

pub put_place-requires : goal.put_place-requires
put_place-requires c = spot-ordered _ _ _ c.spot_of-spot.ensures

pub put_place-requires-in-Ending : goal.put_place-requires-in-Ending
put_place-requires-in-Ending c = spot-ordered _ _ _ c.spot_of-spot.ensures
