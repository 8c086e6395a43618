-- A step of a song line: document 02, [1], over the bars of the line and the answer to a text.
use Rattle.std.specs.Prelude.{List, ℕ}
use Rattle.bars.specs.Bars.{bar_at, place_at}
use Rattle.bars.specs.declared.Found.TheVariants.{TooLong, End, Bar}
use Rattle.bars.specs.declared.Found.{Found}
use Rattle.reader.specs.Reader.{ReadOutcome, read_of}

-- what a step says: "8 when the line is too long"; end, which has no number; or what reading the bar gives
pub data StepOutcome : Type 0 where
  eight : StepOutcome
  end : StepOutcome
  bar : ReadOutcome → StepOutcome

-- "Each step reads one bar as a chord text, with its own number if it is refused"
abbrev pub outcome_of : Found → ReadOutcome → StepOutcome
outcome_of TooLong o = eight
outcome_of End o = end
outcome_of Bar o = bar o

-- the step at a position of a line, with a lent list of `room` numbers; where its bar lies and where the reader goes is `place_at`
unfoldable pub step_of : ℕ → List ℕ → ℕ → StepOutcome
step_of room line p = outcome_of (place_at line p).found (read_of room (bar_at line p))
