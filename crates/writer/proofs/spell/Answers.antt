-- By whether there is a root; K is the one that the record shows.
-- Assumes nothing.
use mathlib.Core.Path.{sym, ap}
use Rattle.chord.specs.Chord.{four_of}
use Rattle.house_text.specs.Spelling.{house_by}
use Rattle.writer.proofs.Puts.{put-none, put_as}
use Rattle.writer.proofs.spell.Goals as goal

pub returns-in-None : goal.returns-in-None
returns-in-None c =
    let f = four_of c.args.chord in
    put_as (sym (ap (λ r. house_by r f) c.in-None.is)) (put-none _ _)

pub returns-in-Some : goal.returns-in-Some
returns-in-Some c =
    let f = four_of c.args.chord in
    put_as (sym (ap (λ r. house_by r f) c.in-Some.is)) c.put_spelling.ensures
