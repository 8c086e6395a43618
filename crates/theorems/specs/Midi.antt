-- What document 02, [7], says of MIDI out, of `midi::next`: for any keys that sound, any base key, any record and any lent output, of one
-- call and of calls one after the other. The only premise is the contract of the function, `Next`. What is said of a number, of a chord
-- that is not refused and of messages is said once, for the C boundary too (`CMidi`).
use Rattle.std.specs.Prelude.{Bool, true, false, cond, ◌&&◌, List, [], ◌∷◌, ◌++◌, map, ◌↔◌, ◌≡◌, ℕ, ◌+◌, ◌≤◌, ◌<◌, eqb, ℤ, drop, length, take}
use Rattle.std.proofs.Math.Option.{Option, none, some}
use Rattle.chord.specs.Chord.{Four, four_of, no_chord}
use Rattle.chord.specs.declared.Chord.{Chord}
use Rattle.intervals.specs.Interval.{Set, empty}
use Rattle.keys.specs.Keys.{keys_of, outside, wants}
use Rattle.keys.specs.Stored.{members}
use Rattle.keys.specs.declared.Keys.{Keys}
use Rattle.midi.specs.Midi.{Answer, between, length_of, number_of}
use Rattle.midi.specs.State.{Next, Step}
use Rattle.theorems.specs.Song.{Run}
use Rattle.theorems.specs.Writing.{NoText}
use Rattle.writer.specs.Writer.{HasText}

-- ---- one call

-- some accepted text has the four that is held
abbrev pub SomeText : Option Four → Type 0
SomeText none = ⊥
SomeText (some f) = HasText f

-- the keys that it wants over a base key
abbrev pub keys_held : ℕ → Option Four → List ℤ
keys_held base none = []
keys_held base (some f) = keys_of base f

-- n is the number of going from the keys s to what is held, over a base key, with an output of `room` bytes
pub record Numbered (room : ℕ) (s : Set) (base : ℕ) (held : Option Four) (n : ℕ) : Type 0 where
  -- "A record that no accepted text has gets 7 first."
  pub seven : (n ≡ 7) ↔ NoText held
  -- "10 when a key falls outside 0 to 127"
  pub ten : (n ≡ 10) ↔ (SomeText held × (outside (keys_held base held) ≡ true))
  -- "then 11 when the lent output is shorter than the messages"
  pub eleven : (n ≡ 11)
      ↔ (SomeText held × (outside (keys_held base held) ≡ false) × (room < length (between s (wants (keys_held base held)))))
  -- and any other number is 0
  pub nought : (n ≡ 7 → ⊥) → (n ≡ 10 → ⊥) → (n ≡ 11 → ⊥) → n ≡ 0

abbrev pub MidiNumbered : Type 0
MidiNumbered =
    (s : Keys) (base : ℕ) (c : Chord) (bs bs' : List ℕ) (r : Step) → Next s base c bs bs' r
    → Numbered (length bs) (members s) base (some (four_of c)) (number_of r.answer)

-- the number and the length say which answer it is
abbrev pub MidiApart : Type 0
MidiApart = (a b : Answer) → number_of a ≡ number_of b → length_of a ≡ length_of b → a ≡ b

-- from the keys s to the four f: the output was bs and is bs', the length is n, and the keys t sound now
pub record Sent (s : Set) (base : ℕ) (f : Four) (bs bs' : List ℕ) (n : ℕ) (t : Set) : Type 0 where
  -- the keys that the chord wants are those that sound
  pub keys : t ≡ wants (keys_of base f)
  -- "what is written fills its own bytes only, from the first on, and its length is returned"
  pub size : n ≡ length (between s (wants (keys_of base f)))
  pub output : bs' ≡ between s (wants (keys_of base f)) ++ drop n bs
  -- at most 384 bytes, in an output that is as long as before
  pub most : n ≤ 384
  pub same : length bs' ≡ length bs

abbrev pub MidiSent : Type 0
MidiSent =
    (s : Keys) (base : ℕ) (c : Chord) (bs bs' : List ℕ) (r : Step) → Next s base c bs bs' r → number_of r.answer ≡ 0
    → Sent (members s) base (four_of c) bs bs' (length_of r.answer) (members r.keys)

-- "all three write nothing and keep the old chord sounding"
abbrev pub MidiUntouched : Type 0
MidiUntouched =
    (s : Keys) (base : ℕ) (c : Chord) (bs bs' : List ℕ) (r : Step) → Next s base c bs bs' r → (number_of r.answer ≡ 0 → ⊥)
    → (bs' ≡ bs) × (length_of r.answer ≡ 0) × (members r.keys ≡ members s)

-- ---- what a caller plans with

-- an output of 384 bytes never gets 11
abbrev pub MidiRoom : Type 0
MidiRoom =
    (s : Keys) (base : ℕ) (c : Chord) (bs bs' : List ℕ) (r : Step) → Next s base c bs bs' r → 384 ≤ length bs
    → number_of r.answer ≡ 11 → ⊥

-- with a base key from 12 to 95 no record gets 10
abbrev pub MidiBase : Type 0
MidiBase =
    (s : Keys) (base : ℕ) (c : Chord) (bs bs' : List ℕ) (r : Step) → Next s base c bs bs' r → 12 ≤ base → base ≤ 95
    → number_of r.answer ≡ 10 → ⊥

-- the same chord again over the same base key sends nothing, whatever output is lent
abbrev pub MidiAgain : Type 0
MidiAgain =
    (s : Keys) (base : ℕ) (c : Chord) (bs bs' ds ds' : List ℕ) (r q : Step) → Next s base c bs bs' r → number_of r.answer ≡ 0
    → Next r.keys base c ds ds' q
    → (number_of q.answer ≡ 0) × (length_of q.answer ≡ 0) × (ds' ≡ ds) × (members q.keys ≡ members r.keys)

-- "No chord wants no keys": whatever the base key is, it leaves silence, or the output is too short
abbrev pub MidiSilence : Type 0
MidiSilence =
    (s : Keys) (base : ℕ) (c : Chord) (bs bs' : List ℕ) (r : Step) → Next s base c bs bs' r → four_of c ≡ no_chord
    → (number_of r.answer ≡ 0 → members r.keys ≡ empty) × ((number_of r.answer ≡ 0 → ⊥) → number_of r.answer ≡ 11)

-- ---- calls, one after the other

-- what a call says: its number, the keys that its chord wants, and what it wrote
pub record Said : Type 0 where
  pub number : ℕ
  pub wanted : Set
  pub bytes : List ℕ

-- all that was written
abbrev pub all_written : List Said → List ℕ
all_written [] = []
all_written (c ∷ cs) = c.bytes ++ all_written cs

-- the keys wanted "by the last chord not refused"; s, if each is
abbrev pub last_wanted : Set → List Said → Set
last_wanted s [] = s
last_wanted s (c ∷ cs) = last_wanted (cond (eqb c.number 0) c.wanted s) cs

-- how many of the messages, of three bytes each, are a, k, v
abbrev pub one : Bool → ℕ
one true = 1
one false = 0

unfoldable pub count_of : ℕ → ℕ → ℕ → List ℕ → ℕ
count_of a k v [] = 0
count_of a k v (x ∷ []) = 0
count_of a k v (x ∷ y ∷ []) = 0
count_of a k v (x ∷ y ∷ z ∷ l) = one (eqb x a && (eqb y k && eqb z v)) + count_of a k v l

-- a key's ons and offs
abbrev pub ons_of : ℕ → List ℕ → ℕ
ons_of k l = count_of 0x90 k 64 l

abbrev pub offs_of : ℕ → List ℕ → ℕ
offs_of k l = count_of 0x80 k 0 l

-- "each key's ons less its offs equals 1 if it is wanted by the last chord not refused, and 0 if not"
abbrev pub Balanced : List Said → Type 0
Balanced cs = (k : ℕ) → ons_of k (all_written cs) ≡ offs_of k (all_written cs) + one (last_wanted empty cs k)

-- a call of `next`, over a base key, of a record; its output was bs and is bs'
pub record Call : Type 0 where
  pub base : ℕ
  pub chord : Chord
  pub bs : List ℕ
  pub bs' : List ℕ
  pub step : Step

abbrev pub Calls : Keys → Call → Keys → Type 0
Calls s c s' = Next s c.base c.chord c.bs c.bs' c.step × (s' ≡ c.step.keys)

-- it wrote the first bytes of its output, as many as its answer says, and none where it is refused
abbrev pub said_by : Call → Said
said_by c =
    record {
      number = number_of c.step.answer;
      wanted = wants (keys_of c.base (four_of c.chord));
      bytes = take (length_of c.step.answer) c.bs';
    }

-- "For any sequence of chords begun in silence": each with its base key and its output
abbrev pub MidiBalance : Type 0
MidiBalance = (s : Keys) (cs : List Call) → members s ≡ empty → Run Calls s cs → Balanced (map said_by cs)
