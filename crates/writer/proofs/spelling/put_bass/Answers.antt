-- The slash's byte and then the note's.
use Rattle.std.proofs.Common.{sym, ap, arith, length}
use Rattle.writer.proofs.Puts.{grew_then, grew_as}
use Rattle.writer.specs.State.{bass_text}
use Rattle.writer.proofs.spelling.put_bass.Goals as goal

pub put_note-requires : goal.put_note-requires
put_note-requires c =
    let e = ap (λ b. length (bass_text b)) c.in-Some.is in
    omega (arith, c.requires, c.put.ensures.put.count, c.put.ensures.size, e)

pub returns-in-Some : goal.returns-in-Some
returns-in-Some c = grew_as (sym (ap bass_text c.in-Some.is)) (grew_then c.put.ensures c.put_note.ensures)
