-- An accepted text's record is written; each refusal gives its number alone.
use Rattle.std.proofs.Common.{refl, ap, ◌∙◌}
use Rattle.reader.specs.Reader.{Accepted}
use Rattle.nophtris.specs.Boundary.{chord_bytes}
use Rattle.nophtris.proofs.Answers.{gave_read}
use Rattle.nophtris.proofs.nophtris_read.Goals as goal

pub returns-in-Ok : goal.returns-in-Ok
returns-in-Ok c =
    let g = c.in-Ok.ensures in
    gave_read Accepted c.args.count.now refl g (c.encode.ensures ∙ ap chord_bytes g.four)
