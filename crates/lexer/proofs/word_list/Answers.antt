-- The table is what the word list says, by computation.
use mathlib.Core.List.{zip_with}
use Rattle.std.proofs.Common.{refl}
use Rattle.lexer.specs.State.{nexts_from, place_down, place_of}
use Rattle.lexer.specs.Words as Words
use Rattle.lexer.proofs.word_list.Goals as goal

pub returns : goal.returns
unfolding Words.words nexts_from place_down place_of zip_with
returns c = refl
