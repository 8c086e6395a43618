-- Reading a card: the five questions of document 01, in their order, and document 02's blank texts, over the definitions of the layers.
use Rattle.std.specs.Prelude.{Option, Some, None, Result, Ok, Err, Bool, true, cond, ◌&&◌, List, [], ◌∷◌, ◌≡◌, ℕ, eqb, ltb, length}
use Rattle.chord.specs.Chord.{Four, no_chord, record_of}
use Rattle.chord.specs.declared.Chord.{Chord}
use Rattle.note.specs.Note.{OptionalNote}
use Rattle.display.specs.Display.{display_of, first_sus}
use Rattle.evaluator.specs.Evaluator.{eval_set, slash_bass}
use Rattle.expression.specs.ParserError.{all_numbers}
use Rattle.expression.specs.declared.expression.Exp.{Exp}
use Rattle.expression.specs.declared.parser_error.ParserError.{ParserError}
use Rattle.folding.specs.Folding.{pre_process}
use Rattle.lexer.specs.Lexer.{tokens_of}
use Rattle.parser.specs.Parser.{parse_of, root_of}
use Rattle.token.specs.declared.Token.{Token}
use Rattle.utf8.specs.Utf8.{well_formed}
use Rattle.validator.specs.Validator.{validation_of}
use Rattle.reader.specs.declared.Refusal.TheVariants.{ShortList, LongText, NotUtf8, Parse, Validation}
use Rattle.reader.specs.declared.Refusal.{Refusal}

-- the answer to a text: that it is accepted, or why it is not
abbrev pub Answer : Type 0
Answer = Option Refusal

abbrev pub Accepted : Answer
Accepted = None

-- what a reading shows: the answer, and the record; that of no chord where the text is not accepted
pub record Reading : Type 0 where
  pub answer : Answer
  pub chord : Chord

abbrev pub reading_of : Result Chord Refusal → Reading
reading_of (Ok c) = record { answer = Accepted; chord = c }
reading_of (Err e) = record { answer = Some e; chord = record_of no_chord }

-- the paper's number of an answer, 0 for an accepted text, and the count of errors that 4 and 5 carry
abbrev pub number_of : Answer → ℕ
number_of None = 0
number_of (Some ShortList) = 1
number_of (Some LongText) = 2
number_of (Some NotUtf8) = 3
number_of (Some (Parse n)) = 4
number_of (Some (Validation n)) = 5

abbrev pub count_of : Answer → ℕ
count_of None = 0
count_of (Some ShortList) = 0
count_of (Some LongText) = 0
count_of (Some NotUtf8) = 0
count_of (Some (Parse n)) = n
count_of (Some (Validation n)) = n

-- what reading gives: the paper's number and count, the four, and what the lent list begins with after it
pub record ReadOutcome : Type 0 where
  pub number : ℕ
  pub count : ℕ
  pub four : Four
  pub errs : List ℕ

-- "Numbers 1, 2, 3 .. and an accepted text leave the lent memory untouched."
abbrev pub refused : ℕ → ReadOutcome
refused n = record { number = n; count = 0; four = no_chord; errs = [] }

-- "root, slash bass, `intervals`, `display_intervals`"
abbrev pub four_by : OptionalNote → List Exp → Four
four_by root l = record { root = root; bass = slash_bass l; normalized = eval_set l; display = display_of (first_sus l) (eval_set l) }

abbrev pub accepted : OptionalNote → List Exp → ReadOutcome
accepted root l = record { number = 0; count = 0; four = four_by root l; errs = [] }

-- "After 4 or 5 with n errors the first 4n numbers hold them"
abbrev pub found : ℕ → List ParserError → ReadOutcome
found n e = record { number = n; count = length e; four = no_chord; errs = all_numbers e }

-- the number n with the errors, or o where there are none
abbrev pub judge : List ParserError → ℕ → ReadOutcome → ReadOutcome
judge [] n o = o
judge (x ∷ xs) n o = found n (x ∷ xs)

-- "Did validation find no error? No: 5, with the count of errors."
abbrev pub validated : OptionalNote → List Exp → ReadOutcome
validated root l = judge (validation_of l (eval_set l)) 5 (accepted root l)

-- "Did parsing find no error? No: 4, with the count of errors."
abbrev pub parsed : List Token → ReadOutcome
parsed ts = judge (parse_of ts).errs 4 (validated (root_of ts) (parse_of ts).exps)

-- the tokens that the parser reads
abbrev pub tokens_in : List ℕ → List Token
tokens_in text = pre_process (tokens_of text)

-- "empty or spaces only" (document 02 [4]); 20 hexadecimal is the space
unfoldable pub is_blank : List ℕ → Bool
is_blank [] = true
is_blank (b ∷ text) = eqb b 0x20 && is_blank text

-- "accepted as no chord: no root, no bass, no intervals"
abbrev pub silent : ReadOutcome
silent = record { number = 0; count = 0; four = no_chord; errs = [] }

-- the answer to a text, "given an error list that is long enough": "Is the text at most 256 bytes? No: 2. Is it UTF-8 by RFC 3629 ..? No:
-- 3." Then "A text of at most 256 bytes that is empty or spaces only is accepted as no chord", and any other is parsed.
unfoldable pub answer_to : List ℕ → ReadOutcome
answer_to text =
    cond (ltb 256 (length text)) (refused 2)
    (cond (well_formed text) (cond (is_blank text) silent (parsed (tokens_in text))) (refused 3))

-- "Does the list hold at least 1,028 numbers? No: 1."
unfoldable pub read_of : ℕ → List ℕ → ReadOutcome
read_of room text = cond (ltb room 1028) (refused 1) (answer_to text)

-- "A text is accepted when each question put to a card gets yes, given an error list that is long enough. Its four are the root, slash
-- bass or none, normalized set and display list that the rules below give it"; a blank text is accepted too, with no chord for its four
pub record IsAccepted (t : List ℕ) (f : Four) : Type 0 where
  pub number : (answer_to t).number ≡ 0
  pub four : (answer_to t).four ≡ f
