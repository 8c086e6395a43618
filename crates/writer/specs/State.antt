-- What the code gave: the answer by its number and length and the whole lent buffer, as an outcome says; and what a part of it writes.
use Rattle.std.specs.Prelude.{cond, List, [], ◌++◌, ◌≡◌, ℕ, ◌+◌, drop, get_or, length, take}
use Rattle.chord.specs.Chord.{four_of}
use Rattle.intervals.specs.Interval.{Set}
use Rattle.chord.specs.declared.Chord.{Chord}
use Rattle.std.specs.declared.option.Option.TheVariants.{None}
use Rattle.note.specs.Note.{OptionalNote}
use Rattle.house_parts.specs.House.{condition_at, is_some, note_or_c, parts}
use Rattle.house_parts.specs.declared.kind.SusKind.{SusKind}
use Rattle.lexer.specs.Text.{ascii}
use Rattle.house_text.specs.Spelling.{note_text, texts, written}
use Rattle.writer.specs.declared.buffer.Buffer.{Buffer}
use Rattle.writer.specs.Writer.{Answer, WriteOutcome, length_of, number_of, write_of}

pub record WriteGave (o : WriteOutcome) (r : Answer) (bs bs' : List ℕ) : Type 0 where
  pub number : number_of r ≡ o.number
  pub size : length_of r ≡ o.length
  pub buffer : bs' ≡ o.bytes ++ drop (length o.bytes) bs

-- what a caller of `write` knows: the record was written into the lent buffer bs, which is bs' now, and the answer is r
abbrev pub Written : Chord → (bs bs' : List ℕ) → Answer → Type 0
Written c bs bs' r = WriteGave (write_of (length bs) (four_of c)) r bs bs'

-- ---- bookkeeping of private contracts from here on

-- the first n bytes became the first r, with `more` after them, and the rest of the buffer is untouched
pub record Put (n r : ℕ) (more : List ℕ) (bs bs' : List ℕ) : Type 0 where
  pub list : take r bs' ≡ take n bs ++ more
  pub rest : drop r bs' ≡ drop r bs
  pub count : r ≡ n + length more

-- `more` was written behind what was written to a lent buffer; it is the same buffer, as long as before
pub record Grew (a b : Buffer) (more : List ℕ) : Type 0 where
  pub put : Put a.len b.len more a.bytes.now b.bytes.now
  pub size : length b.bytes.now ≡ length a.bytes.now
  pub place : b.bytes.ghost_name ≡ a.bytes.ghost_name

-- the texts of the parts but for the bass
abbrev pub texts23 : List (List ℕ)
texts23 = take 23 (texts None)

abbrev pub text_at : ℕ → List ℕ
text_at i = get_or texts23 i []

-- what is written of the i-th part
unfoldable pub part_text : Set → SusKind → ℕ → List ℕ
part_text n k i = cond (condition_at i (parts (λ j. 0) None n k)) (text_at i) []

-- what is written of the parts but for the bass, and of the bass
abbrev pub written23 : Set → SusKind → List ℕ
written23 n k = written (take 23 (parts (λ i. 0) None n k)) texts23

abbrev pub bass_text : OptionalNote → List ℕ
bass_text b = cond (is_some b) (ascii "/" ++ note_text (note_or_c b)) []
