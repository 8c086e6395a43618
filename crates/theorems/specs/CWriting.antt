-- What document 01 says of every writing, of `nophtris_write`: for any 51 bytes and any memory that it is lent. The only premise is the
-- contract of the function, `Write`: of the bytes cs it answered r; the buffer was bs and is bs', the length l and l'.
use Rattle.std.specs.Prelude.{List, ◌≡◌, ℕ, length}
use Rattle.std.proofs.Math.Option.{some}
use Rattle.chord.specs.Chord.{Four}
use Rattle.nophtris.specs.Boundary.{four_in}
use Rattle.nophtris.specs.State.{Write}
use Rattle.theorems.specs.Writing.{Numbered, Spelled}

-- the number: "Has some accepted text exactly these four? No: 7.", and so it is where the bytes hold none
abbrev pub WriteNumbered : Type 0
WriteNumbered = (cs bs bs' : List ℕ) (l l' r : ℕ) → Write cs bs bs' l l' r → Numbered (length bs) (four_in cs) r

-- "A written spelling fills its own bytes only and its length is returned": with 0 the bytes hold a four, and its house spelling was
-- written
abbrev pub WriteSpelled : Type 0
WriteSpelled = (cs bs bs' : List ℕ) (l l' : ℕ) → Write cs bs bs' l l' 0 → (f : Four) × (four_in cs ≡ some f) × Spelled f bs bs' l'

-- "Numbers .. 6, 7 .. leave the lent memory untouched": the buffer, and the length
abbrev pub WriteUntouched : Type 0
WriteUntouched = (cs bs bs' : List ℕ) (l l' r : ℕ) → Write cs bs bs' l l' r → (r ≡ 0 → ⊥) → (bs' ≡ bs) × (l' ≡ l)
