-- MIDI out: document 02 [7] in its words, over the keys that a chord wants.
use Rattle.std.specs.Prelude.{Result, Ok, Err, cond, List, [], ◌∷◌, ◌++◌, ℕ, ltb, ℤ, length}
use Rattle.chord.specs.Chord.{Four}
use Rattle.house_parts.specs.Question.{realizable}
use Rattle.intervals.specs.Interval.{Set}
use Rattle.keys.specs.Keys.{ascending, keys_of, minus, outside, wants}
use Rattle.midi.specs.declared.Refusal.TheVariants.{NoText, OutsideKeys, ShortOutput}
use Rattle.midi.specs.declared.Refusal.{Refusal}

-- the answer to a chord: the length of its messages, or why it is refused
abbrev pub Answer : Type 0
Answer = Result ℕ Refusal

-- the paper's number of a refusal
abbrev pub number : Refusal → ℕ
number NoText = 7
number OutsideKeys = 10
number ShortOutput = 11

-- the paper's number of an answer, 0 for a chord that is not refused, and the length that it carries
abbrev pub number_of : Answer → ℕ
number_of (Ok n) = 0
number_of (Err e) = number e

abbrev pub length_of : Answer → ℕ
length_of (Ok n) = n
length_of (Err e) = 0

-- a message of three bytes for each key
unfoldable pub messages : ℕ → ℕ → List ℕ → List ℕ
messages status velocity [] = []
messages status velocity (k ∷ ks) = status ∷ k ∷ velocity ∷ messages status velocity ks

-- "a key on is the bytes 90 (hexadecimal), key, 64 (decimal) and a key off 80 (hexadecimal), key, 0"
abbrev pub ons : List ℕ → List ℕ
ons ks = messages 0x90 64 ks

abbrev pub offs : List ℕ → List ℕ
offs ks = messages 0x80 0 ks

-- "keys no longer wanted go off in ascending order, then new keys come on in ascending order, each key once"
abbrev pub between : Set → Set → List ℕ
between old new = offs (ascending (minus old new)) ++ ons (ascending (minus new old))

-- what going to a chord gives: the paper's number, the length, the keys that sound then, and what the lent output begins with after it
pub record NextOutcome : Type 0 where
  pub number : ℕ
  pub length : ℕ
  pub keys : Set
  pub bytes : List ℕ

-- "all three write nothing and keep the old chord sounding"
abbrev pub refused : ℕ → Set → NextOutcome
refused n s = record { number = n; length = 0; keys = s; bytes = [] }

-- "what is written fills its own bytes only, from the first on, and its length is returned"
abbrev pub sent : Set → List ℕ → NextOutcome
sent s t = record { number = 0; length = length t; keys = s; bytes = t }

-- "10 when a key falls outside 0 to 127, then 11 when the lent output is shorter than the messages"
abbrev pub go_to : ℕ → Set → List ℤ → NextOutcome
go_to room s zs =
    cond (outside zs) (refused 10 s)
    (cond (ltb room (length (between s (wants zs)))) (refused 11 s) (sent (wants zs) (between s (wants zs))))

-- "A record that no accepted text has gets 7 first." (`realizable` is that question as a test.)
unfoldable pub next_of : ℕ → Set → ℕ → Four → NextOutcome
next_of room s base f = cond (realizable f) (go_to room s (keys_of base f)) (refused 7 s)
