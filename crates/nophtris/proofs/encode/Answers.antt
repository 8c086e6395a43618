-- The two notes, the set and the list, one after the other, are all the bytes.
use Rattle.std.proofs.Common.{sym, ◌∙◌}
use Rattle.chord.specs.Chord.{four_of}
use Rattle.nophtris.specs.Boundary.{chord_bytes}
use Rattle.nophtris.proofs.Answers.{put_all}
use Rattle.nophtris.proofs.Bytes.{chord-length}
use Rattle.writer.proofs.Puts.{grew_then, put_from}
use Rattle.nophtris.proofs.encode.Goals as goal

pub returns : goal.returns
unfolding chord_bytes
returns c =
    let t = chord_bytes (four_of c.args.chord) in
    let b = c.new-out.ensures in
    let w = grew_then c.put_note.ensures (grew_then c.put_note-2.ensures (grew_then c.put_set.ensures c.put_list.ensures)) in
    put_all {r = c.put_list.new.out.len} t (c.told-bytes ∙ sym (chord-length (four_of c.args.chord)))
    (put_from b.0 b.1 w.put)
