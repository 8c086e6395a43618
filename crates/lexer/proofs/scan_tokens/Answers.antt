-- One token more, behind those of the walk.
use Rattle.std.proofs.Common.{arith}
use Rattle.lexer.proofs.Ranges.{scanned}
use Rattle.lexer.proofs.Steps.{written-more}
use Rattle.lexer.proofs.scan_tokens.Goals as goal

pub returns : goal.returns
returns c =
    let w = c.scan_text-n.ensures in
    let m = written-more _ (omega (arith, w.1, c.requires.1)) w.0 c.put_end.ensures in
    record { scanned = scanned m (omega (arith, w.1)); untouched = m.rest }
