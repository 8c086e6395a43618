-- What document 02, [1], says of a song line, of `nophtris_step`: for any line, any position and any memory that it is lent. The only
-- premise is the contract of the function, `Step`.
use Rattle.std.specs.Prelude.{List, map, ◌≡◌, ℕ, ◌≤◌, ◌<◌, drop, length, take}
use Rattle.bars.specs.Bars.{bars_of, longest_line}
use Rattle.nophtris.specs.State.{Read, Step}
use Rattle.parser.specs.All.{All}
use Rattle.theorems.specs.Song.{Answers, Run, Turn, bars_from, joined}

-- a call: the list was es and is es', the count c and c', the 51 bytes of the record cs and cs', the bar's place f and f' and its length l
-- and l', and the answer is r
pub record Call : Type 0 where
  pub es : List ℕ
  pub es' : List ℕ
  pub c : ℕ
  pub c' : ℕ
  pub cs : List ℕ
  pub cs' : List ℕ
  pub f : ℕ
  pub f' : ℕ
  pub l : ℕ
  pub l' : ℕ
  pub r : ℕ

-- the position was p and is p'
abbrev pub Calls : List ℕ → ℕ → Call → ℕ → Type 0
Calls line p k p' =
    Step line p p' k.es k.es' k.c k.c' k.cs k.cs' k.f k.f' k.l k.l' k.r

-- one step: 8, 255 for end, and 0 to 5 with a bar
abbrev pub StepTurns : Type 0
StepTurns = (line : List ℕ) (p p' : ℕ) (k : Call) → Calls line p k p' → Turn line p p' (k.r ≡ 8) (k.r ≡ 255) (k.r ≤ 5)

abbrev pub cut_by : List ℕ → Call → List ℕ
cut_by line k = take k.l' (drop k.f' line)

-- the call read b, and all is as `nophtris_read` of b alone promises
pub record CallReads (line b : List ℕ) (k : Call) : Type 0 where
  pub read : Read b k.es k.es' k.c k.c' k.cs k.cs' k.r
  pub bytes : cut_by line k ≡ b

-- it answered n, and all lent memory is as it was
pub record CallSays (n : ℕ) (k : Call) : Type 0 where
  pub says : k.r ≡ n
  pub errors : k.es' ≡ k.es
  pub count : k.c' ≡ k.c
  pub chord : k.cs' ≡ k.cs
  pub from : k.f' ≡ k.f
  pub size : k.l' ≡ k.l

-- "A line of n bars, begun at position 0, is done after n + 1 steps, the last of which says end, as does any step after it."
abbrev pub AllBars : Type 0
AllBars =
    (line : List ℕ) (ks : List Call) → length line ≤ longest_line → Run (Calls line) 0 ks
    → Answers (CallReads line) (CallSays 255) ks (bars_of line)

abbrev pub BarsFrom : Type 0
BarsFrom =
    (line : List ℕ) (p : ℕ) (ks : List Call) → length line ≤ longest_line → Run (Calls line) p ks
    → Answers (CallReads line) (CallSays 255) ks (bars_from line p)

-- what the n steps hand out, joined with `|`, is the line
abbrev pub HandedOut : Type 0
HandedOut =
    (line : List ℕ) (ks : List Call) → length line ≤ longest_line → Run (Calls line) 0 ks → length ks ≡ length (bars_of line)
    → joined (map (cut_by line) ks) ≡ line

-- a line that is too long gives 8 for ever
abbrev pub AlwaysEight : Type 0
AlwaysEight = (line : List ℕ) (p : ℕ) (ks : List Call) → longest_line < length line → Run (Calls line) p ks → All (CallSays 8) ks
