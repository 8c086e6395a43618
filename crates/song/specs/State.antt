-- What the code gave: what a step says, the record and the whole lent list as its outcome says, and the places as `place_at` says.
use Rattle.std.specs.Prelude.{List, ◌≡◌, ℕ, length}
use Rattle.chord.specs.Chord.{no_chord, record_of}
use Rattle.chord.specs.declared.Chord.{Chord}
use Rattle.bars.specs.Bars.{place_at}
use Rattle.reader.specs.Reader.{Answer as ReadAnswer, reading_of}
use Rattle.reader.specs.State.{ReadGave}
use Rattle.song.specs.Song.{StepOutcome, eight, end, bar, step_of}
use Rattle.song.specs.declared.Answer.TheVariants as code
use Rattle.song.specs.declared.Answer.{Answer as CodeAnswer}
use Rattle.song.specs.declared.Step.{Step as CodeStep}

-- what a step shows: what it says, the record of an accepted bar (without one, that of no chord), where the bar lies, and where the next
-- step begins
pub data Answer : Type 0 where
  TooLong : Answer
  End : Answer
  Bar : ReadAnswer → Answer

pub record Step : Type 0 where
  pub answer : Answer
  pub chord : Chord
  pub from : ℕ
  pub to : ℕ
  pub next : ℕ

abbrev pub answer_of : CodeAnswer → Answer
answer_of code.TooLong = TooLong
answer_of code.End = End
answer_of (code.Bar r) = Bar (reading_of r).answer

abbrev pub chord_of : CodeAnswer → Chord
chord_of code.TooLong = record_of no_chord
chord_of code.End = record_of no_chord
chord_of (code.Bar r) = (reading_of r).chord

abbrev pub shown : CodeStep → Step
shown s = record { answer = answer_of s.answer; chord = chord_of s.answer; from = s.from; to = s.to; next = s.next }

-- "Here and below a new number leaves lent memory untouched", and so does end; with a bar, all is as reading its text leaves it
abbrev pub StepGave : StepOutcome → Answer → Chord → (es es' : List ℕ) → Type 0
StepGave eight a c es es' = (a ≡ TooLong) × (c ≡ record_of no_chord) × (es' ≡ es)
StepGave end a c es es' = (a ≡ End) × (c ≡ record_of no_chord) × (es' ≡ es)
StepGave (bar o) a c es es' = (x : ReadAnswer) × (a ≡ Bar x) × ReadGave o (record { answer = x; chord = c }) es es'

-- what a caller of `step_at` knows: at the position p of the line it gave s; the lent list was es and is es'
pub record Stepped (line : List ℕ) (p : ℕ) (s : Step) (es es' : List ℕ) : Type 0 where
  pub said : StepGave (step_of (length es) line p) s.answer s.chord es es'
  pub from : s.from ≡ (place_at line p).from
  pub to : s.to ≡ (place_at line p).to
  pub next : s.next ≡ (place_at line p).next
