-- What document 02, [5], says of a body and an ending: of one bar number, of all of them in order, and of the steps of [1] on each line.
-- The only premises are the contracts of `endings::spot_of` (an equation with `spot_of`), `endings::bar_of` (`BarAt`) and
-- `endings::bar_by_number` (`NumberedBy`), and those of a step. What is said of a number is said once, for the C boundary too (`CEndings`).
use Rattle.std.specs.Prelude.{List, [], ◌∷◌, ◌++◌, map, ◌↔◌, ◌⊎◌, ◌≡◌, ℕ, zero, suc, ◌+◌, ◌-◌, ◌≤◌, ◌<◌, drop, get_or, length, take}
use Rattle.bars.specs.Bars.{bars_of, longest_line}
use Rattle.bars.specs.State.{Line, Part}
use Rattle.endings.specs.Endings.{bar_count, number_of, spot_of}
use Rattle.endings.specs.State.{BarAt, NumberedBy, line_of}
use Rattle.endings.specs.declared.Answer.TheVariants.{TooLong, NoBar, Body, Ending}
use Rattle.endings.specs.declared.Answer.{Answer}
use Rattle.endings.specs.declared.NumberedBar.{NumberedBar}
use Rattle.endings.specs.declared.Spot.{Spot}
use Rattle.line_reader.specs.declared.LineReader.{LineReader}
use Rattle.theorems.specs.Song.{Answers, Call, CallReads, Calls, NextCall, NextCalls, Run}

-- ---- one number

-- "A line is at most 4,096 bytes", of both lines
abbrev pub Short : List ℕ → List ℕ → Type 0
Short body ending = (length body ≤ longest_line) × (length ending ≤ longest_line)

-- the number k is answered with 8, 9, a bar of the body or a bar of the ending exactly where the paper says so
pub record ByNumber (body ending : List ℕ) (k : ℕ) (Eight Nine InBody InEnding : Type 0) : Type 0 where
  -- "after 8 has been checked for the body and then the ending"
  pub eight : Eight ↔ ((longest_line < length body) ⊎ (longest_line < length ending))
  -- "9 when the bar number is not below the two bar counts together"
  pub nine : Nine ↔ (Short body ending × (bar_count body + bar_count ending ≤ k))
  -- "bars number from 0 through the body and then on through the ending"
  pub in_body : InBody ↔ (Short body ending × (k < bar_count body))
  pub in_ending : InEnding ↔ (Short body ending × (bar_count body ≤ k) × (k < bar_count body + bar_count ending))

abbrev pub SpotByNumber : Type 0
SpotByNumber =
    (body ending : List ℕ) (k : ℕ) (s : Spot) → s ≡ spot_of body ending k
    → ByNumber body ending k (s.answer ≡ TooLong) (s.answer ≡ NoBar) (s.answer ≡ Body) (s.answer ≡ Ending)

-- "the answer is the bar's own bytes": what `bar_of` hands out is that bar, of those of the body and then of the ending
abbrev pub OwnBytes : Type 0
OwnBytes =
    (body ending : Line) (k : ℕ) (r : Line) → BarAt body ending k r → Short body.now ending.now
    → k < bar_count body.now + bar_count ending.now
    → r.now ≡ get_or (bars_of body.now ++ bars_of ending.now) k []

-- no two numbers have the same bar: the line and the place tell the number
abbrev pub EachOnce : Type 0
EachOnce =
    (body ending : List ℕ) (j k : ℕ) (s t : Spot) → s ≡ spot_of body ending j → t ≡ spot_of body ending k
    → number_of s.answer ≡ 0 → t.answer ≡ s.answer → t.from ≡ s.from → j ≡ k

-- ---- the numbers 0, 1, 2 and so on

-- the bars of the body and then those of the ending, each with the line that has it
abbrev pub both_bars : List ℕ → List ℕ → List (Answer × List ℕ)
both_bars body ending = map (λ (b : List ℕ). (Body, b)) (bars_of body) ++ map (λ (b : List ℕ). (Ending, b)) (bars_of ending)

-- a call with each number, one after the other: a `Run` whose state is the number
abbrev pub Counting : {C : Type 0} → (ℕ → C → Type 0) → ℕ → C → ℕ → Type 0
Counting asked k c k' = asked k c × (k' ≡ suc k)

abbrev pub cut_at : List ℕ → List ℕ → Spot → List ℕ
cut_at body ending s = take (s.to - s.from) (drop s.from (line_of s.answer body ending))

-- the spot is that of the bar b of its line
abbrev pub SpotGives : List ℕ → List ℕ → Answer × List ℕ → Spot → Type 0
SpotGives body ending x s = (s.answer ≡ x.0) × (cut_at body ending s ≡ x.1)

-- the answers to 0, 1, 2 and so on are the bars of the body and then those of the ending, each once, and 9 after them
abbrev pub SpotsInOrder : Type 0
SpotsInOrder =
    (body ending : List ℕ) (ss : List Spot) → Short body ending
    → Run (Counting (λ (k : ℕ) (s : Spot). s ≡ spot_of body ending k)) 0 ss
    → Answers (SpotGives body ending) (λ (s : Spot). s.answer ≡ NoBar) ss (both_bars body ending)

-- "the answer is the bar's own bytes, as a part of whichever lent line has it"
pub record BarGives (body ending : Line) (x : Answer × List ℕ) (r : NumberedBar) : Type 0 where
  pub answer : r.spot.answer ≡ x.0
  pub bytes : r.bar.now ≡ x.1
  pub part : Part (line_of x.0 body ending) r.spot.from r.spot.to r.bar

abbrev pub BarsInOrder : Type 0
BarsInOrder =
    (body ending : Line) (rs : List NumberedBar) → Short body.now ending.now → Run (Counting (NumberedBy body ending)) 0 rs
    → Answers (BarGives body ending) (λ (r : NumberedBar). r.spot.answer ≡ NoBar) rs (both_bars body.now ending.now)

-- ---- the steps of [1]: "Both lines follow the bar rule above"

-- c is the k-th of the calls, counted from 0
abbrev pub Nth : {C : Type 0} → ℕ → C → List C → Type 0
Nth k c [] = ⊥
Nth zero c (x ∷ xs) = c ≡ x
Nth (suc k) c (x ∷ xs) = Nth k c xs

-- the number of a bar in its own line
abbrev pub in_line : List ℕ → Answer → ℕ → ℕ
in_line body a k = line_of a k (k - bar_count body)

-- reading bar k is the k-th step of [1] on its line: of the steps from position 0 of that line on, the one that has the bar's number there
-- reads these bytes, in the same place
abbrev pub BarIsStep : Type 0
BarIsStep =
    (body ending : List ℕ) (k : ℕ) (s : Spot) → s ≡ spot_of body ending k → number_of s.answer ≡ 0
    → (cs : List Call) → Run (Calls (line_of s.answer body ending)) 0 cs → (c : Call) → Nth (in_line body s.answer k) c cs
    → (c.step.from ≡ s.from) × (c.step.to ≡ s.to) × CallReads (line_of s.answer body ending) (cut_at body ending s) c

-- and of a reader that holds the line that step hands out the same part, the same bytes at the same place in memory
abbrev pub BarIsNext : Type 0
BarIsNext =
    (body ending : Line) (k : ℕ) (r : NumberedBar) → NumberedBy body ending k r → number_of r.spot.answer ≡ 0
    → (l : LineReader) → l.line ≡ line_of r.spot.answer body ending → l.at ≡ 0
    → (cs : List NextCall) → Run NextCalls l cs → (c : NextCall) → Nth (in_line body.now r.spot.answer k) c cs
    → (c.next.bar.now ≡ r.bar.now) × (c.next.bar.ref_ptr ≡ r.bar.ref_ptr)
