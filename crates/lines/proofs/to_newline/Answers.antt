use Rattle.lines.proofs.Newlines.{first}
use Rattle.lines.proofs.to_newline.Goals as goal

pub returns : goal.returns
returns c = first _ _ (rw c.newline.ensures at c.unwrap_or.ensures)
