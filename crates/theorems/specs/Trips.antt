-- Demand 3, of `reader::read` and `writer::write`: a text that is read and written back, and what was written, read again. The only
-- premises are the contracts of the two functions.
use Rattle.std.specs.Prelude.{List, ◌↔◌, ◌≡◌, ℕ, ◌≤◌, length, take}
use Rattle.chord.specs.Chord.{four_of}
use Rattle.chord.specs.declared.Chord.{Chord}
use Rattle.reader.specs.Reader as reader
use Rattle.reader.specs.State.{Read}
use Rattle.reader.specs.Reader.{Reading}
use Rattle.theorems.specs.Writing.{Spelled}
use Rattle.writer.specs.State.{Written}
use Rattle.writer.specs.Writer.{Answer, length_of, number_of}

-- "Every accepted text has a spelling of at most 112 bytes"; "writing that record gives its house spelling, whatever buffer of at least
-- 112 bytes is lent": what was read with 0 is written with 0, and its house spelling stands in the buffer.
abbrev pub ReadThenWrite : Type 0
ReadThenWrite =
    (text es es' : List ℕ) (r : Reading) → Read text es es' r → reader.number_of r.answer ≡ 0
    → (bs bs' : List ℕ) (a : Answer) → 112 ≤ length bs → Written r.chord bs bs' a
    → (number_of a ≡ 0) × Spelled (four_of r.chord) bs bs' (length_of a)

-- a text was read with 0 as the record c, and c was written into a buffer of at least 112 bytes, the first of which are now w
pub record ReadAndWritten (text : List ℕ) (c : Chord) (w : List ℕ) : Type 0 where
  pub es : List ℕ
  pub es' : List ℕ
  pub reading : Reading
  pub read : Read text es es' reading
  pub zero : reader.number_of reading.answer ≡ 0
  pub chord : reading.chord ≡ c
  pub bs : List ℕ
  pub bs' : List ℕ
  pub answer : Answer
  pub room : 112 ≤ length bs
  pub write : Written c bs bs' answer
  pub bytes : w ≡ take (length_of answer) bs'

-- "which is accepted and reads as the same four": reading what was written, with any list of at least 1,028 numbers, gives the same record
abbrev pub WriteThenRead : Type 0
WriteThenRead =
    (text : List ℕ) (c : Chord) (w : List ℕ) → ReadAndWritten text c w
    → (es es' : List ℕ) (r : Reading) → 1028 ≤ length es → Read w es es' r
    → (reader.number_of r.answer ≡ 0) × (r.chord ≡ c)

-- the same of any record that was written, wherever it came from: what is read has its four
abbrev pub AnyWrittenThenRead : Type 0
AnyWrittenThenRead =
    (c : Chord) (bs bs' : List ℕ) (a : Answer) → Written c bs bs' a → number_of a ≡ 0
    → (es es' : List ℕ) (r : Reading) → 1028 ≤ length es → Read (take (length_of a) bs') es es' r
    → (reader.number_of r.answer ≡ 0) × (four_of r.chord ≡ four_of c)

-- "Two accepted texts have the same house spelling exactly when they have the same four (root, bass, normalized set, display list)", and
-- so the same record
abbrev pub SameSpelling : Type 0
SameSpelling =
    (t u : List ℕ) (c d : Chord) (v w : List ℕ) → ReadAndWritten t c v → ReadAndWritten u d w
    → ((v ≡ w) ↔ (four_of c ≡ four_of d)) × ((v ≡ w) ↔ (c ≡ d))
