-- What the code gave: the answer by its number and count, the record and the whole lent list, as an outcome says.
use Rattle.std.specs.Prelude.{List, ◌++◌, ◌≡◌, ℕ, ◌≤◌, drop, length, take}
use Rattle.chord.specs.Chord.{four_of, record_of}
use Rattle.folding.specs.Folding.{pre_process}
use Rattle.lexer.specs.Lexer.{tokens_of}
use Rattle.token.specs.Token.{Ranged, Room}
use Rattle.token.specs.declared.Token.{Token}
use Rattle.reader.specs.Reader.{ReadOutcome, Reading, count_of, number_of, read_of}

pub record ReadGave (o : ReadOutcome) (r : Reading) (es es' : List ℕ) : Type 0 where
  pub number : number_of r.answer ≡ o.number
  pub count : count_of r.answer ≡ o.count
  pub four : four_of r.chord ≡ o.four
  pub chord : r.chord ≡ record_of o.four
  pub list : es' ≡ o.errs ++ drop (length o.errs) es

-- what a caller of `read` knows: the text was read with the lent list es, which is es' now, and the reading is r
abbrev pub Read : (text es es' : List ℕ) → Reading → Type 0
Read text es es' r = ReadGave (read_of (length es) text) r es es'

-- the first e tokens are those of the text, folded, and the parser takes them
pub record Tokenized (text : List ℕ) (e : ℕ) (ts : List Token) : Type 0 where
  pub few : e ≤ 257
  pub room : Room e ts
  pub list : take e ts ≡ pre_process (tokens_of text)
  pub ranged : Ranged 1000 1000 (take e ts)
