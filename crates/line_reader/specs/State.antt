-- What the code gave: the reader's step, its bar as a part of the line, and the reader after it.
use Rattle.std.specs.Borrow.{Bor}
use Rattle.std.specs.Prelude.{List, ◌≡◌, ℕ}
use Rattle.bars.specs.Bars.{place_at}
use Rattle.bars.specs.State.{Part}
use Rattle.song.specs.State.{Step, Stepped, shown}
use Rattle.song.specs.declared.Step.{Step as CodeStep}
use Rattle.line_reader.specs.declared.LineReader.{LineReader}
use Rattle.line_reader.specs.declared.NextStep.{NextStep as CodeNextStep}

-- what the reader's step shows: the step, its bar, and the reader after it
pub record NextStep : Type 0 where
  pub step : Step
  pub bar : Bor (List ℕ)
  pub reader : LineReader

abbrev pub next_shown : CodeNextStep → NextStep
next_shown t = record { step = shown t.step; bar = t.bar; reader = t.reader }

-- what a caller of `next` knows: the reader r gave t; "hands out the next bar as a part of the line"
pub record NextStepped (r : LineReader) (t : NextStep) (es es' : List ℕ) : Type 0 where
  pub step : Stepped r.line.now r.at t.step es es'
  pub bar : Part r.line (place_at r.line.now r.at).from (place_at r.line.now r.at).to t.bar
  pub line : t.reader.line ≡ r.line
  pub at : t.reader.at ≡ (place_at r.line.now r.at).next
