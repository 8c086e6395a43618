-- What document 01 says of every reading, of `reader::read`: for any text and any lent list, es before it and es' after it. The only
-- premise is the contract of the function, `Read`. What is said of a number, of errors and of a four is said once, for the C boundary too
-- (`CReading`).
use Rattle.std.specs.Prelude.{true, false, List, [], ◌++◌, ◌↔◌, ◌⊎◌, ◌≡◌, ℕ, ◌*◌, ◌≤◌, ◌<◌, drop, get_or, length}
use Rattle.chord.specs.Chord.{Four, four_of, no_chord, record_of}
use Rattle.note.specs.declared.Note.{Note}
use Rattle.std.specs.declared.option.Option.TheVariants.{Some}
use Rattle.evaluator.specs.Evaluator.{eval_set}
use Rattle.expression.specs.declared.parser_error.ParserError.{ParserError}
use Rattle.parser.specs.Parser.{parse_of}
use Rattle.reader.specs.Reader.{IsAccepted, answer_to, count_of, is_blank, number_of, tokens_in}
use Rattle.reader.specs.State.{Read}
use Rattle.reader.specs.Reader.{Answer}
use Rattle.reader.specs.Reader.{Reading}
use Rattle.utf8.specs.Utf8.{WellFormed}
use Rattle.validator.specs.Validator.{validation_of}

-- ---- a text

-- what parsing finds in it, and what validation finds in the expressions that parsing gives
abbrev pub parse_errors : List ℕ → List ParserError
parse_errors text = (parse_of (tokens_in text)).errs

abbrev pub validation_errors : List ℕ → List ParserError
validation_errors text = validation_of (parse_of (tokens_in text)).exps (eval_set (parse_of (tokens_in text)).exps)

-- the errors, as their numbers, and the four that the rules give it
abbrev pub errors_of : List ℕ → List ℕ
errors_of text = (answer_to text).errs

abbrev pub four_of_text : List ℕ → Four
four_of_text text = (answer_to text).four

-- ---- the number

-- n is the number of reading the text with a list of `room` numbers: the questions put to a card, "In this order"
pub record Numbered (room : ℕ) (text : List ℕ) (n : ℕ) : Type 0 where
  -- "Does the list hold at least 1,028 numbers? No: 1."
  pub one : (n ≡ 1) ↔ (room < 1028)
  -- "Is the text at most 256 bytes? No: 2."
  pub two : (n ≡ 2) ↔ ((1028 ≤ room) × (256 < length text))
  -- "Is it UTF-8 by RFC 3629 (no overlong form, no surrogate, nothing above U+10FFFF)? No: 3."
  pub three : (n ≡ 3) ↔ ((1028 ≤ room) × (length text ≤ 256) × (WellFormed text → ⊥))
  -- "Did parsing find no error? No: 4"; a blank text is not parsed
  pub four : (n ≡ 4) ↔
      ((1028 ≤ room) × (length text ≤ 256) × WellFormed text × (is_blank text ≡ false) × (1 ≤ length (parse_errors text)))
  -- "Did validation find no error? No: 5"
  pub five : (n ≡ 5) ↔
      ((1028 ≤ room) × (length text ≤ 256) × WellFormed text × (is_blank text ≡ false) × (parse_errors text ≡ [])
      × (1 ≤ length (validation_errors text)))
  -- "A text is accepted when each question put to a card gets yes, given an error list that is long enough."
  pub nought : (n ≡ 0) ↔ ((1028 ≤ room) × IsAccepted text (four_of_text text))
  pub most : n ≤ 5

abbrev pub ReadNumbered : Type 0
ReadNumbered = (text es es' : List ℕ) (r : Reading) → Read text es es' r → Numbered (length es) text (number_of r.answer)

-- the number and the count say which answer it is
abbrev pub ReadApart : Type 0
ReadApart = (a b : Answer) → number_of a ≡ number_of b → count_of a ≡ count_of b → a ≡ b

-- ---- the errors

-- the list began as es, is es' now, and `count` errors were counted
pub record Errors (text es es' : List ℕ) (count : ℕ) : Type 0 where
  pub some : 1 ≤ count
  -- "There are at most 257 errors."
  pub most : count ≤ 257
  -- "Each error is four numbers"
  pub four : length (errors_of text) ≡ 4 * count
  -- "After 4 or 5 with n errors the first 4n numbers hold them; the rest is untouched."
  pub list : es' ≡ errors_of text ++ drop (4 * count) es
  pub same : length es' ≡ length es
  -- "Kinds are 1 to 18", "Kinds 13 and 18 keep their numbers and never occur"
  pub kinds : (i : ℕ) → i < count → (1 ≤ get_or es' (4 * i) 0) × (get_or es' (4 * i) 0 < 18) × (get_or es' (4 * i) 0 ≡ 13 → ⊥)

-- "4, with the count of errors", "5, with the count of errors"
abbrev pub ReadErrors : Type 0
ReadErrors = (text es es' : List ℕ) (r : Reading) → Read text es es' r → 4 ≤ number_of r.answer → Errors text es es' (count_of r.answer)

-- "Numbers 1, 2, 3 .. and an accepted text leave the lent memory untouched."
abbrev pub ReadUntouched : Type 0
ReadUntouched = (text es es' : List ℕ) (r : Reading) → Read text es es' r → number_of r.answer ≤ 3
    → (es' ≡ es) × (count_of r.answer ≡ 0)

-- ---- the record

-- a text that is accepted with the four f has a root, or it is blank and there is no chord
abbrev pub RootOrBlank : List ℕ → Four → Type 0
RootOrBlank text f = ((n : Note) × (f.root ≡ Some n)) ⊎ ((is_blank text ≡ true) × (f ≡ no_chord))

-- "The record read from an accepted text has its four", and it is the whole record of them; any other text gets the record of no chord
abbrev pub ReadRecord : Type 0
ReadRecord =
    (text es es' : List ℕ) (r : Reading) → Read text es es' r
    → (number_of r.answer ≡ 0
    → (four_of r.chord ≡ four_of_text text) × (r.chord ≡ record_of (four_of_text text)) × RootOrBlank text (four_of_text text))
    × ((number_of r.answer ≡ 0 → ⊥) → r.chord ≡ record_of no_chord)
