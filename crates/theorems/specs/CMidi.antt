-- What document 02, [7], says of MIDI out, of `nophtris_midi`: for any 16 bytes of keys that sound, any base key, any 51 bytes and any
-- memory that it is lent. The only premise is the contract of the function, `Midi`: the keys that sound were ss and are ss', the output bs
-- and bs', the length l and l', and the answer to the bytes cs is r.
use Rattle.std.specs.Prelude.{cond, List, [], map, ◌≡◌, ℕ, ◌≤◌, eqb, length, replicate, take}
use Rattle.std.proofs.Math.Option.{some}
use Rattle.chord.specs.Chord.{Four, no_chord}
use Rattle.intervals.specs.Interval.{empty}
use Rattle.keys.specs.Keys.{wants}
use Rattle.keys.specs.Stored.{keys_in}
use Rattle.nophtris.specs.Boundary.{four_in}
use Rattle.nophtris.specs.State.{Midi}
use Rattle.theorems.specs.Midi.{Balanced, Numbered, Said, Sent, keys_held}
use Rattle.theorems.specs.Song.{Run}

-- the number: 7 too where the bytes hold no four
abbrev pub MidiNumbered : Type 0
MidiNumbered =
    (ss ss' : List ℕ) (base : ℕ) (cs bs bs' : List ℕ) (l l' r : ℕ) → Midi ss ss' base cs bs bs' l l' r
    → Numbered (length bs) (keys_in ss) base (four_in cs) r

-- with 0 the bytes hold a four, and the 16 bytes hold the keys that it wants
abbrev pub MidiSent : Type 0
MidiSent =
    (ss ss' : List ℕ) (base : ℕ) (cs bs bs' : List ℕ) (l l' : ℕ) → Midi ss ss' base cs bs bs' l l' 0
    → (f : Four) × (four_in cs ≡ some f) × (length ss' ≡ 16) × Sent (keys_in ss) base f bs bs' l' (keys_in ss')

-- "all three write nothing and keep the old chord sounding": the output, the length and the keys
abbrev pub MidiUntouched : Type 0
MidiUntouched =
    (ss ss' : List ℕ) (base : ℕ) (cs bs bs' : List ℕ) (l l' r : ℕ) → Midi ss ss' base cs bs bs' l l' r → (r ≡ 0 → ⊥)
    → (bs' ≡ bs) × (l' ≡ l) × (ss' ≡ ss)

-- an output of 384 bytes never gets 11, and with a base key from 12 to 95 no record gets 10
abbrev pub MidiRoom : Type 0
MidiRoom =
    (ss ss' : List ℕ) (base : ℕ) (cs bs bs' : List ℕ) (l l' r : ℕ) → Midi ss ss' base cs bs bs' l l' r → 384 ≤ length bs → r ≡ 11 → ⊥

abbrev pub MidiBase : Type 0
MidiBase =
    (ss ss' : List ℕ) (base : ℕ) (cs bs bs' : List ℕ) (l l' r : ℕ) → Midi ss ss' base cs bs bs' l l' r → 12 ≤ base → base ≤ 95
    → r ≡ 10 → ⊥

-- the same chord again over the same base key sends nothing, whatever output is lent
abbrev pub MidiAgain : Type 0
MidiAgain =
    (ss ss' ss'' : List ℕ) (base : ℕ) (cs bs bs' ds ds' : List ℕ) (l l' n n' r : ℕ) → Midi ss ss' base cs bs bs' l l' 0
    → Midi ss' ss'' base cs ds ds' n n' r → (r ≡ 0) × (n' ≡ 0) × (ds' ≡ ds) × (ss'' ≡ ss')

-- "No chord wants no keys": whatever the base key is, it leaves silence, which is 16 zeros, or the output is too short
abbrev pub silence : List ℕ
silence = replicate 16 0

abbrev pub MidiSilence : Type 0
MidiSilence =
    (ss ss' : List ℕ) (base : ℕ) (cs bs bs' : List ℕ) (l l' r : ℕ) → Midi ss ss' base cs bs bs' l l' r → four_in cs ≡ some no_chord
    → (r ≡ 0 → ss' ≡ silence) × ((r ≡ 0 → ⊥) → r ≡ 11)

-- ---- calls, one after the other

-- a call over a base key, of the bytes cs; its output was bs and is bs', the length l and l', and the answer is r
pub record Call : Type 0 where
  pub base : ℕ
  pub cs : List ℕ
  pub bs : List ℕ
  pub bs' : List ℕ
  pub l : ℕ
  pub l' : ℕ
  pub r : ℕ

-- the 16 bytes were ss and are ss'
abbrev pub Calls : List ℕ → Call → List ℕ → Type 0
Calls ss k ss' = Midi ss ss' k.base k.cs k.bs k.bs' k.l k.l' k.r

-- with 0 it wrote the first bytes of its output, as many as the length says; and none where it is refused
abbrev pub said_by : Call → Said
said_by k =
    record {
      number = k.r;
      wanted = wants (keys_held k.base (four_in k.cs));
      bytes = cond (eqb k.r 0) (take k.l' k.bs') [];
    }

-- "For any sequence of chords begun in silence": from 16 zeros on, each with its base key and its output
abbrev pub MidiBalance : Type 0
MidiBalance = (ks : List Call) → Run Calls silence ks → Balanced (map said_by ks)
