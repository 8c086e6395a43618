-- Demand 3, of `nophtris_read` and `nophtris_write`: bytes in, bytes out. The only premises are the contracts of the two functions.
use Rattle.std.specs.Prelude.{List, ◌↔◌, ◌≡◌, ℕ, ◌≤◌, length, take}
use Rattle.nophtris.specs.Boundary.{four_in}
use Rattle.nophtris.specs.State.{Read, Write}
use Rattle.theorems.specs.Reading.{four_of_text}
use Rattle.theorems.specs.Writing.{Spelled}

-- "writing that record gives its house spelling, whatever buffer of at least 112 bytes is lent"
abbrev pub ReadThenWrite : Type 0
ReadThenWrite =
    (text es es' : List ℕ) (c c' : ℕ) (cs cs' : List ℕ) → Read text es es' c c' cs cs' 0
    → (bs bs' : List ℕ) (l l' r : ℕ) → 112 ≤ length bs → Write cs' bs bs' l l' r
    → (r ≡ 0) × Spelled (four_of_text text) bs bs' l'

-- a text was read with 0 into the bytes cs, and cs were written into a buffer of at least 112 bytes, the first of which are now w
pub record ReadAndWritten (text cs w : List ℕ) : Type 0 where
  pub es : List ℕ
  pub es' : List ℕ
  pub c : ℕ
  pub c' : ℕ
  pub before : List ℕ
  pub read : Read text es es' c c' before cs 0
  pub bs : List ℕ
  pub bs' : List ℕ
  pub l : ℕ
  pub l' : ℕ
  pub r : ℕ
  pub room : 112 ≤ length bs
  pub write : Write cs bs bs' l l' r
  pub bytes : w ≡ take l' bs'

-- reading what was written, with any list of at least 1,028 numbers, fills in the very same 51 bytes
abbrev pub WriteThenRead : Type 0
WriteThenRead =
    (text cs w : List ℕ) → ReadAndWritten text cs w
    → (es es' : List ℕ) (c c' : ℕ) (ds ds' : List ℕ) (r : ℕ) → 1028 ≤ length es → Read w es es' c c' ds ds' r
    → (r ≡ 0) × (ds' ≡ cs)

-- the same of any 51 bytes that were written, wherever they came from: the bytes that reading fills in hold the same four (they may be
-- other bytes, since the numbers behind the count are not looked at, and reading fills in 0)
abbrev pub AnyWrittenThenRead : Type 0
AnyWrittenThenRead =
    (cs bs bs' : List ℕ) (l l' : ℕ) → Write cs bs bs' l l' 0
    → (es es' : List ℕ) (c c' : ℕ) (ds ds' : List ℕ) (r : ℕ) → 1028 ≤ length es → Read (take l' bs') es es' c c' ds ds' r
    → (r ≡ 0) × (four_in ds' ≡ four_in cs)

-- "Two accepted texts have the same house spelling exactly when they have the same four", and exactly when they were read into the same
-- bytes
abbrev pub SameSpelling : Type 0
SameSpelling =
    (t u cs ds v w : List ℕ) → ReadAndWritten t cs v → ReadAndWritten u ds w
    → ((v ≡ w) ↔ (four_of_text t ≡ four_of_text u)) × ((v ≡ w) ↔ (cs ≡ ds))
