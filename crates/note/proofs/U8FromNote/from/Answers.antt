-- Both numbers are small, and the note is found again from them.
use Rattle.std.proofs.Common.{arith}
use Rattle.note.proofs.Numbers.{numbered}
use Rattle.note.proofs.U8FromNote.from.Goals as goal

pub returns : goal.returns
returns c = numbered c.args.note _ (omega (arith, c.from.ensures, c.number.ensures))
