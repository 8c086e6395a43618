-- The row of the table at the word's place.
use Rattle.std.proofs.Common.{[], ◌∙◌, ap, get_or}
use Rattle.lexer.specs.declared.Row.{Row}
use Rattle.lexer.proofs.Words.{row-is}
use Rattle.lexer.proofs.word_row.Goals as goal

abbrev no_row : Row
no_row = record { 0 = []; 1 = 0; 2 = 0; 3 = 0 }

pub returns : goal.returns
returns c = ap (λ l. get_or l c.args.i no_row) c.word_list.ensures ∙ row-is c.args.i c.requires no_row
