-- What document 02, [1], says of a song line: of its bars, of one step, and of steps one after the other. The only premises are the
-- contracts of `song::step_at` (`Stepped`) and of `LineReader::next`, which goes through a reader that holds the line (`NextStepped`).
-- What is said of a line and of calls is said once, for the C boundary too (`CSong`).
use Rattle.std.specs.Prelude.{cond, List, [], ◌∷◌, ◌++◌, map, ◌↔◌, ◌≡◌, ℕ, suc, ◌+◌, ◌-◌, ◌≤◌, ◌<◌, ltb, drop, length, take}
use Rattle.chord.specs.Chord.{no_chord, record_of}
use Rattle.chord.specs.declared.Chord.{Chord}
use Rattle.bars.specs.Bars.{bar_end, bars_of, longest_line, stroke, strokes}
use Rattle.bars.specs.State.{Line, Part}
use Rattle.parser.specs.All.{All}
use Rattle.reader.specs.State.{Read}
use Rattle.reader.specs.Reader.{Answer as ReadAnswer}
use Rattle.line_reader.specs.State.{NextStepped}
use Rattle.line_reader.specs.declared.LineReader.{LineReader}
use Rattle.line_reader.specs.State.{NextStep}
use Rattle.song.specs.State.{Stepped}
use Rattle.song.specs.State.{TooLong, End, Bar}
use Rattle.song.specs.State.{Answer}
use Rattle.song.specs.State.{Step}

-- ---- the bars of a line

-- bars, each with a `|` before it
abbrev pub behind : List (List ℕ) → List ℕ
behind [] = []
behind (b ∷ bs) = stroke ∷ (b ++ behind bs)

-- bars with a `|` between each two
abbrev pub joined : List (List ℕ) → List ℕ
joined [] = []
joined (b ∷ bs) = b ++ behind bs

-- "bars are split at each `|`; the bar count is one more than the count of `|`": no bar has one, and joined they give the line back
pub record Split (line : List ℕ) : Type 0 where
  pub joins : joined (bars_of line) ≡ line
  pub clean : All (λ (b : List ℕ). strokes b ≡ 0) (bars_of line)
  pub count : length (bars_of line) ≡ suc (strokes line)

abbrev pub BarsSplit : Type 0
BarsSplit = (line : List ℕ) → Split line

-- ---- one step

-- a step at p that leaves the reader at p' says 8, end or a bar exactly where the paper says so
pub record Turn (line : List ℕ) (p p' : ℕ) (Eight End Bar : Type 0) : Type 0 where
  -- "8 when the line is too long, checked first at each step, and the reader stays where it is"
  pub eight : Eight ↔ (longest_line < length line)
  pub eight_stays : Eight → p' ≡ p
  -- "above the line's length it says end and stays"
  pub end : End ↔ ((length line ≤ longest_line) × (length line < p))
  pub end_stays : End → p' ≡ p
  -- "its bar runs from there to the next `|` or the line's end, the reader moves one past that"
  pub bar : Bar ↔ ((length line ≤ longest_line) × (p ≤ length line))
  pub bar_moves : Bar → p' ≡ bar_end line p + 1

abbrev pub SaysBar : Answer → Type 0
SaysBar a = (x : ReadAnswer) × (a ≡ Bar x)

abbrev pub StepTurns : Type 0
StepTurns =
    (line : List ℕ) (p : ℕ) (s : Step) (es es' : List ℕ) → Stepped line p s es es'
    → Turn line p s.next (s.answer ≡ TooLong) (s.answer ≡ End) (SaysBar s.answer)

abbrev pub NextTurns : Type 0
NextTurns =
    (r : LineReader) (t : NextStep) (es es' : List ℕ) → NextStepped r t es es'
    → Turn r.line.now r.at t.reader.at (t.step.answer ≡ TooLong) (t.step.answer ≡ End) (SaysBar t.step.answer)

-- ---- calls, one after the other

-- calls from a state on, each at the state in which the one before it left the reader: `does s c s'` is what the call c does
pub data Run {S C : Type 0} (does : S → C → S → Type 0) : S → List C → Type 0 where
  done : {s : S} → Run does s []
  call : {s s' : S} {cs : List C} (c : C) → does s c s' → Run does s' cs → Run does s (c ∷ cs)

-- the calls read these bars in order, and all calls after them say end, or of bar numbers 9
abbrev pub Answers : {B C : Type 0} → (B → C → Type 0) → (C → Type 0) → List C → List B → Type 0
Answers reads ends [] bs = Unit
Answers reads ends (c ∷ cs) [] = ends c × Answers reads ends cs []
Answers reads ends (c ∷ cs) (b ∷ bs) = reads b c × Answers reads ends cs bs

-- the bars from a position on: "A reader may be handed in at any position"; above the line's length there are none
unfoldable pub bars_from : List ℕ → ℕ → List (List ℕ)
bars_from line p = cond (ltb (length line) p) [] (bars_of (drop p line))

-- a call said a and gave the chord ch; its list was es and is es', and the bytes of its bar are cut. "Each step reads one bar as a chord
-- text, with its own number if it is refused": it read b, and all is as reading b alone with that list promises
pub record ReadsBar (b : List ℕ) (a : Answer) (ch : Chord) (es es' cut : List ℕ) : Type 0 where
  pub answer : ReadAnswer
  pub says : a ≡ Bar answer
  pub read : Read b es es' (record { answer = answer; chord = ch })
  pub bytes : cut ≡ b

-- it said n, 8 or end: "a new number leaves lent memory untouched", and there is no chord
pub record ReadsNone (n a : Answer) (ch : Chord) (es es' : List ℕ) : Type 0 where
  pub says : a ≡ n
  pub list : es' ≡ es
  pub chord : ch ≡ record_of no_chord

-- ---- calls of `step_at`

pub record Call : Type 0 where
  pub es : List ℕ
  pub es' : List ℕ
  pub step : Step

abbrev pub Calls : List ℕ → ℕ → Call → ℕ → Type 0
Calls line p c p' = Stepped line p c.step c.es c.es' × (p' ≡ c.step.next)

abbrev pub cut_by : List ℕ → Call → List ℕ
cut_by line c = take (c.step.to - c.step.from) (drop c.step.from line)

abbrev pub CallReads : List ℕ → List ℕ → Call → Type 0
CallReads line b c = ReadsBar b c.step.answer c.step.chord c.es c.es' (cut_by line c)

abbrev pub CallSays : Answer → Call → Type 0
CallSays n c = ReadsNone n c.step.answer c.step.chord c.es c.es'

-- "A line of n bars, begun at position 0, is done after n + 1 steps, the last of which says end, as does any step after it."
abbrev pub AllBars : Type 0
AllBars =
    (line : List ℕ) (cs : List Call) → length line ≤ longest_line → Run (Calls line) 0 cs
    → Answers (CallReads line) (CallSays End) cs (bars_of line)

abbrev pub BarsFrom : Type 0
BarsFrom =
    (line : List ℕ) (p : ℕ) (cs : List Call) → length line ≤ longest_line → Run (Calls line) p cs
    → Answers (CallReads line) (CallSays End) cs (bars_from line p)

-- what the n steps hand out, joined with `|`, is the line
abbrev pub HandedOut : Type 0
HandedOut =
    (line : List ℕ) (cs : List Call) → length line ≤ longest_line → Run (Calls line) 0 cs → length cs ≡ length (bars_of line)
    → joined (map (cut_by line) cs) ≡ line

-- a line that is too long gives 8 for ever
abbrev pub AlwaysEight : Type 0
AlwaysEight = (line : List ℕ) (p : ℕ) (cs : List Call) → longest_line < length line → Run (Calls line) p cs → All (CallSays TooLong) cs

-- ---- calls of `next`

pub record NextCall : Type 0 where
  pub es : List ℕ
  pub es' : List ℕ
  pub next : NextStep

abbrev pub NextCalls : LineReader → NextCall → LineReader → Type 0
NextCalls r c r' = NextStepped r c.next c.es c.es' × (r' ≡ c.next.reader)

-- the bar is handed out "as a part of the line"
pub record NextReads (line : Line) (b : List ℕ) (c : NextCall) : Type 0 where
  pub bar : ReadsBar b c.next.step.answer c.next.step.chord c.es c.es' c.next.bar.now
  pub part : (from : ℕ) × (to : ℕ) × Part line from to c.next.bar

abbrev pub NextSays : Answer → NextCall → Type 0
NextSays n c = ReadsNone n c.next.step.answer c.next.step.chord c.es c.es'

abbrev pub NextBarsFrom : Type 0
NextBarsFrom =
    (r : LineReader) (cs : List NextCall) → length r.line.now ≤ longest_line → Run NextCalls r cs
    → Answers (NextReads r.line) (NextSays End) cs (bars_from r.line.now r.at)

abbrev pub NextAllBars : Type 0
NextAllBars =
    (r : LineReader) (cs : List NextCall) → r.at ≡ 0 → length r.line.now ≤ longest_line → Run NextCalls r cs
    → Answers (NextReads r.line) (NextSays End) cs (bars_of r.line.now)

abbrev pub NextHandedOut : Type 0
NextHandedOut =
    (r : LineReader) (cs : List NextCall) → r.at ≡ 0 → length r.line.now ≤ longest_line → Run NextCalls r cs
    → length cs ≡ length (bars_of r.line.now)
    → joined (map (λ (c : NextCall). c.next.bar.now) cs) ≡ r.line.now

abbrev pub NextAlwaysEight : Type 0
NextAlwaysEight = (r : LineReader) (cs : List NextCall) → longest_line < length r.line.now → Run NextCalls r cs
    → All (NextSays TooLong) cs
