-- The C boundary: a record as 51 bytes, and what the functions answer and leave in the memory that they are lent.
use Rattle.std.specs.Prelude.{Bool, true, cond, ◌&&◌, ◌||◌, List, [], ◌∷◌, ◌++◌, ℕ, zero, suc, ◌+◌, ◌-◌, eqb, leb, ltb, ℤ, pos, negsuc, drop, get_or, length, replicate, take}
use Rattle.std.proofs.Math.Option.{Option, none, some}
use Rattle.chord.specs.Chord.{Four}
use Rattle.endings.specs.Endings.{number_of}
use Rattle.endings.specs.State.{line_of}
use Rattle.endings.specs.declared.Answer.{Answer}
use Rattle.intervals.specs.Interval.{Set}
use Rattle.keys.specs.Stored.{keys_bytes, keys_in}
use Rattle.midi.specs.Midi as midi
use Rattle.note.specs.Note.{alteration_of, letter_number, letter_of}
use Rattle.std.specs.declared.option.Option.TheVariants.{None, Some}
use Rattle.note.specs.Note.{OptionalNote}
use Rattle.note.specs.declared.RootModifier.TheVariants.{Natural, Sharp, Flat}
use Rattle.note.specs.declared.RootModifier.{RootModifier}
use Rattle.reader.specs.Reader as reader
use Rattle.song.specs.Song.{StepOutcome, eight, end, bar}
use Rattle.writer.specs.Writer as writer

-- ---- a record as bytes, in the order of the struct's fields

-- a number from -128 to 127 as the byte of an int8_t: -1 is 255
abbrev pub byte_of : ℤ → ℕ
byte_of (pos n) = n
byte_of (negsuc n) = 255 - n

-- "alteration (-1, 0, 1)"
abbrev pub alteration_byte : RootModifier → ℕ
alteration_byte m = byte_of (alteration_of m)

-- "C 0 to B 6", 255 none; "its alteration (0 if none)"
abbrev pub note_bytes : OptionalNote → List ℕ
note_bytes None = 255 ∷ 0 ∷ []
note_bytes (Some n) = letter_number n.literal ∷ alteration_byte n.modifier ∷ []

-- 1 for a member, 0 for none, of n numbers from i on
abbrev pub set_bytes : ℕ → ℕ → Set → List ℕ
set_bytes zero i s = []
set_bytes (suc n) i s = cond (s i) 1 0 ∷ set_bytes n (suc i) s

-- the count, the numbers, and zeros up to 23
abbrev pub list_bytes : List ℕ → List ℕ
list_bytes d = length d ∷ take 23 (d ++ replicate 23 0)

unfoldable pub chord_bytes : Four → List ℕ
chord_bytes f = note_bytes f.root ++ (note_bytes f.bass ++ (set_bytes 23 0 f.normalized ++ list_bytes f.display))

-- ---- the four of any 51 bytes, if they hold one

-- the values, field by field
abbrev pub modifier_in : ℕ → RootModifier
modifier_in a = cond (eqb a (alteration_byte Sharp)) Sharp (cond (eqb a (alteration_byte Flat)) Flat Natural)

abbrev pub note_in : ℕ → ℕ → OptionalNote
note_in l a = cond (eqb l 255) None (Some (record { literal = letter_of l; modifier = modifier_in a }))

unfoldable pub values_in : List ℕ → Four
values_in bs =
    record {
      root = note_in (get_or bs 0 0) (get_or bs 1 0);
      bass = note_in (get_or bs 2 0) (get_or bs 3 0);
      normalized = λ k. ltb k 23 && eqb (get_or bs (4 + k) 0) 1;
      display = take (get_or bs 27 0) (take 23 (drop 28 bs));
    }

-- each lies in its range: a letter below 7 with an alteration, or none with the alteration 0; 0 or 1 for each interval; a count of at
-- most 23. The numbers behind the count are not looked at.
abbrev pub is_alteration : ℕ → Bool
is_alteration a = eqb a (alteration_byte Natural) || (eqb a (alteration_byte Sharp) || eqb a (alteration_byte Flat))

abbrev pub is_note : ℕ → ℕ → Bool
is_note l a = cond (eqb l 255) (eqb a 0) (ltb l 7 && is_alteration a)

abbrev pub are_bits : List ℕ → Bool
are_bits [] = true
are_bits (b ∷ bs) = leb b 1 && are_bits bs

unfoldable pub inside : List ℕ → Bool
inside bs =
    is_note (get_or bs 0 0) (get_or bs 1 0) && (is_note (get_or bs 2 0) (get_or bs 3 0) && (leb (get_or bs 27 0) 23 && are_bits (take 23 (drop 4 bs))))

-- none where a value lies outside its range
unfoldable pub four_in : List ℕ → Option Four
four_in bs = cond (inside bs) (some (values_in bs)) none

-- ---- reading

-- the count is written with 4 and 5 only, the record with 0 only
abbrev pub count_after : reader.ReadOutcome → ℕ → ℕ
count_after o c = cond (eqb o.number 4 || eqb o.number 5) o.count c

abbrev pub chord_after : reader.ReadOutcome → List ℕ → List ℕ
chord_after o bs = cond (eqb o.number 0) (chord_bytes o.four) bs

-- ---- a step of a song line

-- 8 and end leave the lent memory untouched, as a refusal does; end has no number in the paper, and is 255
abbrev pub read_in : StepOutcome → reader.ReadOutcome
read_in eight = reader.refused 8
read_in end = reader.refused 255
read_in (bar o) = o

-- a bar's place is written with an answer of a bar only
abbrev pub place_after : StepOutcome → ℕ → ℕ → ℕ
place_after eight new old = old
place_after end new old = old
place_after (bar o) new old = new

-- ---- a bar by its number

-- the line that has the bar: 0 the body, 1 the ending
abbrev pub line_number : Answer → ℕ
line_number a = line_of a 0 1

-- the line that has the bar, its place and its length are written with 0 only
abbrev pub spot_after : Answer → ℕ → ℕ → ℕ
spot_after a new old = cond (eqb (number_of a) 0) new old

-- ---- writing

-- "Has some accepted text exactly these four? No: 7.": so it is too where the bytes hold none
abbrev pub answer_to : Option Four → writer.WriteOutcome
answer_to none = writer.refused 7
answer_to (some f) = writer.answer_to f

-- "Does the buffer hold at least 112 bytes? No: 6."
unfoldable pub write_in : ℕ → List ℕ → writer.WriteOutcome
write_in room bs = cond (ltb room 112) (writer.refused 6) (answer_to (four_in bs))

-- the length is written with a spelling only
abbrev pub length_after : writer.WriteOutcome → ℕ → ℕ
length_after o l = cond (eqb o.number 0) o.length l

-- ---- MIDI out

-- "A record that no accepted text has gets 7 first": so it is too where the bytes hold none
abbrev pub next_from : ℕ → Set → ℕ → Option Four → midi.NextOutcome
next_from room s base none = midi.refused 7 s
next_from room s base (some f) = midi.next_of room s base f

-- from the keys that the 16 bytes ss hold to the chord that the bytes cs hold
unfoldable pub next_in : ℕ → List ℕ → ℕ → List ℕ → midi.NextOutcome
next_in room ss base cs = next_from room (keys_in ss) base (four_in cs)

-- the keys that sound and the length are written with 0 only
abbrev pub sounding_after : midi.NextOutcome → List ℕ → List ℕ
sounding_after o ss = cond (eqb o.number 0) (keys_bytes o.keys) ss

abbrev pub sent_after : midi.NextOutcome → ℕ → ℕ
sent_after o l = cond (eqb o.number 0) o.length l
