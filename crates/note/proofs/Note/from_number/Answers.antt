-- What the two calls ensure.
-- Assumes nothing.
use Rattle.note.proofs.Note.from_number.Goals as goal

pub returns : goal.returns
returns c = rw (c.from_number-2.ensures, c.from_number.ensures)
