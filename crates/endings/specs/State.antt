-- What the code gave: the bar of a number as a part of whichever lent line has it.
use Rattle.std.specs.Prelude.{List, ◌≡◌, ℕ, ◌+◌, ◌≤◌, ◌<◌, length, Result, MatchResult}
use Rattle.bars.specs.Bars.{bar_end}
use Rattle.bars.specs.State.{Line, Part}
use Rattle.endings.specs.Endings.{bar_count, spot_of, start_of}
use Rattle.endings.specs.declared.Answer.TheVariants.{TooLong, NoBar, Body, Ending}
use Rattle.endings.specs.declared.Answer.{Answer}
use Rattle.endings.specs.declared.NumberedBar.{NumberedBar}
use Rattle.endings.specs.declared.Spot.{Spot}

-- "whichever lent line has it": the ending or the body; without a bar the body
abbrev pub line_of : {X : Type 0} → Answer → X → X → X
line_of TooLong body ending = body
line_of NoBar body ending = body
line_of Body body ending = body
line_of Ending body ending = ending

-- what a caller of `bar_of` knows: "the answer is the bar's own bytes, as a part of whichever lent line has it"
abbrev pub BarAt : Line → Line → ℕ → Line → Type 0
BarAt body ending k r =
    let s : Spot = spot_of body.now ending.now k in
    Part (line_of s.answer body ending) s.from s.to r

-- what a caller of `bar_by_number` knows: of the number k it gave r
pub record NumberedBy (body ending : Line) (k : ℕ) (r : NumberedBar) : Type 0 where
  pub spot : r.spot ≡ spot_of body.now ending.now k
  pub bar : BarAt body ending k r.bar

-- ---- bookkeeping of private contracts

-- a spot lies in its line
pub record Fits (s : Spot) (body ending : List ℕ) : Type 0 where
  pub ordered : s.from ≤ s.to
  pub within : s.to ≤ length (line_of s.answer body ending)

-- r is where bar k of a line starts, or its number counted on behind the line's bars
abbrev pub StartIn : List ℕ → ℕ → Result ℕ ℕ → Type 0
StartIn line k r = MatchResult r (λ p. (k < bar_count line) × (p ≡ start_of line k)) (λ n. bar_count line + n ≡ k)

-- the spot of the bar that starts at p
abbrev pub spot_from : Answer → List ℕ → ℕ → Spot
spot_from a line p = record { answer = a; from = p; to = bar_end line p }
