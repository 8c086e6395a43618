-- What document 01 says of every reading, of `nophtris_read`: for any text and any memory that it is lent. The only premise is the
-- contract of the function, `Read`: of the text it answered r; the list was es and is es', the count c and c', the 51 bytes of the record
-- cs and cs'.
use Rattle.std.specs.Prelude.{List, ◌≡◌, ℕ, ◌≤◌, ◌<◌, get_or, length}
use Rattle.std.proofs.Math.Option.{some}
use Rattle.nophtris.specs.Boundary.{four_in}
use Rattle.nophtris.specs.State.{Read}
use Rattle.theorems.specs.Reading.{Errors, Numbered, RootOrBlank, four_of_text}

-- the number, by the questions in their order
abbrev pub ReadNumbered : Type 0
ReadNumbered = (text es es' : List ℕ) (c c' : ℕ) (cs cs' : List ℕ) (r : ℕ) → Read text es es' c c' cs cs' r → Numbered (length es) text r

-- "After 4 or 5 with n errors the first 4n numbers hold them; the rest is untouched."
abbrev pub ReadErrors : Type 0
ReadErrors = (text es es' : List ℕ) (c c' : ℕ) (cs cs' : List ℕ) (r : ℕ) → Read text es es' c c' cs cs' r → 4 ≤ r → Errors text es es' c'

-- "Numbers 1, 2, 3 .. and an accepted text leave the lent memory untouched": the list, and the count
abbrev pub ReadUntouched : Type 0
ReadUntouched = (text es es' : List ℕ) (c c' : ℕ) (cs cs' : List ℕ) (r : ℕ) → Read text es es' c c' cs cs' r → r ≤ 3 → (es' ≡ es) × (c' ≡ c)

-- "The record read from an accepted text has its four": the bytes that reading fills are 51, and hold them; with any other number they
-- are as they were
abbrev pub ReadRecord : Type 0
ReadRecord =
    (text es es' : List ℕ) (c c' : ℕ) (cs cs' : List ℕ) (r : ℕ) → Read text es es' c c' cs cs' r
    → (r ≡ 0
    → (four_in cs' ≡ some (four_of_text text)) × (length cs' ≡ 51) × ((i : ℕ) → get_or cs' i 0 < 256) × RootOrBlank text (four_of_text text))
    × ((r ≡ 0 → ⊥) → cs' ≡ cs)
