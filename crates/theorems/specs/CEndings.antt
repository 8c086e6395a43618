-- What document 02, [5], says of a body and an ending, of `nophtris_bar`: for any lines, any number and any memory that it is lent. The
-- only premises are the contracts of the functions, `Bar` and `Step`.
use Rattle.std.specs.Prelude.{cond, List, ◌≡◌, ℕ, ◌-◌, eqb, drop, take}
use Rattle.endings.specs.Endings.{bar_count}
use Rattle.endings.specs.declared.Answer.{Answer}
use Rattle.nophtris.specs.Boundary.{line_number}
use Rattle.nophtris.specs.State.{Bar}
use Rattle.theorems.specs.CSong as song
use Rattle.theorems.specs.Endings.{ByNumber, Counting, Nth, Short, both_bars}
use Rattle.theorems.specs.Song.{Answers, Run}

-- a call: the line was w and is w', the bar's place f and f' and its length l and l', and the answer is r
pub record Call : Type 0 where
  pub w : ℕ
  pub w' : ℕ
  pub f : ℕ
  pub f' : ℕ
  pub l : ℕ
  pub l' : ℕ
  pub r : ℕ

-- with the number k
abbrev pub Asked : List ℕ → List ℕ → ℕ → Call → Type 0
Asked body ending k c = Bar body ending k c.w c.w' c.f c.f' c.l c.l' c.r

-- 0 the body, 1 the ending
abbrev pub line_at : {X : Type 0} → ℕ → X → X → X
line_at w body ending = cond (eqb w 0) body ending

abbrev pub BarByNumber : Type 0
BarByNumber =
    (body ending : List ℕ) (k : ℕ) (c : Call) → Asked body ending k c
    → ByNumber body ending k (c.r ≡ 8) (c.r ≡ 9) ((c.r ≡ 0) × (c.w' ≡ 0)) ((c.r ≡ 0) × (c.w' ≡ 1))

-- "a new number leaves lent memory untouched"
abbrev pub BarUntouched : Type 0
BarUntouched =
    (body ending : List ℕ) (k : ℕ) (c : Call) → Asked body ending k c → (c.r ≡ 0 → ⊥)
    → (c.w' ≡ c.w) × (c.f' ≡ c.f) × (c.l' ≡ c.l)

-- no two numbers have the same bar: the line and the place tell the number
abbrev pub EachOnce : Type 0
EachOnce =
    (body ending : List ℕ) (j k : ℕ) (c d : Call) → Asked body ending j c → Asked body ending k d
    → c.r ≡ 0 → d.r ≡ 0 → d.w' ≡ c.w' → d.f' ≡ c.f' → j ≡ k

abbrev pub cut_by : List ℕ → List ℕ → Call → List ℕ
cut_by body ending c = take c.l' (drop c.f' (line_at c.w' body ending))

-- the call gave the bar b of its line
abbrev pub Gives : List ℕ → List ℕ → Answer × List ℕ → Call → Type 0
Gives body ending x c = (c.r ≡ 0) × (c.w' ≡ line_number x.0) × (cut_by body ending c ≡ x.1)

-- the numbers 0, 1, 2 and so on: the bars of the body, then those of the ending, and 9 for ever
abbrev pub BarsInOrder : Type 0
BarsInOrder =
    (body ending : List ℕ) (cs : List Call) → Short body ending → Run (Counting (Asked body ending)) 0 cs
    → Answers (Gives body ending) (λ (c : Call). c.r ≡ 9) cs (both_bars body ending)

-- reading bar k is the k-th step of [1] on its line: of the steps from position 0 of that line on, the one that has the bar's number there
-- reads these bytes, in the same place
abbrev pub BarIsStep : Type 0
BarIsStep =
    (body ending : List ℕ) (k : ℕ) (c : Call) → Asked body ending k c → c.r ≡ 0
    → (ds : List song.Call) → Run (song.Calls (line_at c.w' body ending)) 0 ds
    → (d : song.Call) → Nth (line_at c.w' k (k - bar_count body)) d ds
    → (d.f' ≡ c.f') × (d.l' ≡ c.l') × song.CallReads (line_at c.w' body ending) (cut_by body ending c) d
