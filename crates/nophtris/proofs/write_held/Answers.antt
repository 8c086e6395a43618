-- The code asks the definition's questions in its order.
use Rattle.nophtris.proofs.Answers.{held_short, held_none, held_some}
use Rattle.nophtris.proofs.write_held.Goals as goal

pub returns-then-buffer-lt112 : goal.returns-then-buffer-lt112
returns-then-buffer-lt112 c = held_short _ _ c.if-buffer-lt112.true

pub returns-in-None : goal.returns-in-None
returns-in-None c = held_none _ _ c.if-buffer-lt112.false c.in-None.ensures

pub returns-in-Some : goal.returns-in-Some
returns-in-Some c = held_some _ _ c.if-buffer-lt112.false c.in-Some.ensures c.write.ensures
