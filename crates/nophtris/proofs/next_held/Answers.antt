-- The bytes hold no record, or the one that `midi::next` goes to.
use Rattle.nophtris.proofs.Sounding.{held_none, held_some}
use Rattle.nophtris.proofs.next_held.Goals as goal

pub returns-in-None : goal.returns-in-None
returns-in-None c = held_none _ _ _ _ c.in-None.ensures

pub returns-in-Some : goal.returns-in-Some
returns-in-Some c = held_some _ _ _ c.in-Some.ensures c.next.ensures.next
