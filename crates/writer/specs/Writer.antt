-- Writing a record: the two questions of document 01, in their order, over the definitions of the layers.
use Rattle.std.specs.Prelude.{Result, Ok, Err, cond, List, [], ℕ, ltb, length}
use Rattle.chord.specs.Chord.{Four}
use Rattle.house_parts.specs.Question.{realizable}
use Rattle.house_text.specs.Spelling.{house}
use Rattle.reader.specs.Reader.{IsAccepted}
use Rattle.writer.specs.declared.Refusal.TheVariants.{ShortBuffer, NoText}
use Rattle.writer.specs.declared.Refusal.{Refusal}

-- the answer to a record: the length of its spelling, or why there is none
abbrev pub Answer : Type 0
Answer = Result ℕ Refusal

-- the paper's number of a refusal
abbrev pub number : Refusal → ℕ
number ShortBuffer = 6
number NoText = 7

-- the paper's number of an answer, 0 for a record that is written, and the length that it carries
abbrev pub number_of : Answer → ℕ
number_of (Ok n) = 0
number_of (Err e) = number e

abbrev pub length_of : Answer → ℕ
length_of (Ok n) = n
length_of (Err e) = 0

-- what writing gives: the paper's number, the length, and what the lent buffer begins with after it
pub record WriteOutcome : Type 0 where
  pub number : ℕ
  pub length : ℕ
  pub bytes : List ℕ

-- "Numbers .. 6, 7 .. leave the lent memory untouched."
abbrev pub refused : ℕ → WriteOutcome
refused n = record { number = n; length = 0; bytes = [] }

-- "A written spelling fills its own bytes only and its length is returned."
abbrev pub spelled : List ℕ → WriteOutcome
spelled t = record { number = 0; length = length t; bytes = t }

-- the answer to a record, given a buffer that is long enough: "Has some accepted text exactly these four? No: 7." (`realizable` is that
-- question as a test.)
abbrev pub answer_to : Four → WriteOutcome
answer_to f = cond (realizable f) (spelled (house f)) (refused 7)

-- "Does the buffer hold at least 112 bytes? No: 6."
unfoldable pub write_of : ℕ → Four → WriteOutcome
write_of room f = cond (ltb room 112) (refused 6) (answer_to f)

-- "Has some accepted text exactly these four?"
abbrev pub HasText : Four → Type 0
HasText f = (t : List ℕ) × IsAccepted t f
