-- What the code gave: the answer by its number and length, the keys that sound and the whole lent output, as an outcome says.
use Rattle.std.specs.Prelude.{List, ◌++◌, ◌≡◌, ℕ, drop, length}
use Rattle.chord.specs.Chord.{four_of}
use Rattle.chord.specs.declared.Chord.{Chord}
use Rattle.keys.specs.Stored.{members}
use Rattle.keys.specs.declared.Keys.{Keys}
use Rattle.midi.specs.Midi.{Answer, NextOutcome, length_of, next_of, number_of}

-- the answer, and the keys that sound after it
pub record Step : Type 0 where
  pub answer : Answer
  pub keys : Keys

pub record NextGave (o : NextOutcome) (r : Step) (bs bs' : List ℕ) : Type 0 where
  pub number : number_of r.answer ≡ o.number
  pub size : length_of r.answer ≡ o.length
  pub keys : members r.keys ≡ o.keys
  pub output : bs' ≡ o.bytes ++ drop (length o.bytes) bs

-- what a caller of `next` knows: from the keys s it went to the chord c over a base key, with the lent output bs, which is bs' now, and
-- gave r
abbrev pub Next : Keys → ℕ → Chord → (bs bs' : List ℕ) → Step → Type 0
Next s base c bs bs' r = NextGave (next_of (length bs) (members s) base (four_of c)) r bs bs'
