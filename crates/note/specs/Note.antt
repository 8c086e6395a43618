-- Notes: a letter and a modifier, and the numbers that the listing gives them.
use Rattle.std.specs.Prelude.{Option, [], ◌∷◌, ℕ, ◌+◌, ◌*◌, ◌/◌, ◌%◌, ℤ, pos, negsuc, get_or}
use Rattle.intervals.specs.Interval.{semitones}
use Rattle.note.specs.declared.Note.{Note}
use Rattle.note.specs.declared.NoteLiteral.TheVariants.{C, D, E, F, G, A, B}
use Rattle.note.specs.declared.NoteLiteral.{NoteLiteral}
use Rattle.note.specs.declared.RootModifier.TheVariants.{Natural, Sharp, Flat}
use Rattle.note.specs.declared.RootModifier.{RootModifier}

-- "root letter (C 0 to B 6)"
abbrev pub letter_number : NoteLiteral → ℕ
letter_number C = 0
letter_number D = 1
letter_number E = 2
letter_number F = 3
letter_number G = 4
letter_number A = 5
letter_number B = 6

-- the letter of a number; numbers from 7 on have none and give C
abbrev pub letter_of : ℕ → NoteLiteral
letter_of n = get_or (C ∷ D ∷ E ∷ F ∷ G ∷ A ∷ B ∷ []) n C

-- "alteration (-1, 0, 1)"
abbrev pub alteration_of : RootModifier → ℤ
alteration_of Natural = pos 0
alteration_of Sharp = pos 1
alteration_of Flat = negsuc 0

-- a note as one number, where it stands in an array: three for each letter, and in these natural, sharp, flat
abbrev pub modifier_number : RootModifier → ℕ
modifier_number Natural = 0
modifier_number Sharp = 1
modifier_number Flat = 2

abbrev pub modifier_of : ℕ → RootModifier
modifier_of n = get_or (Natural ∷ Sharp ∷ Flat ∷ []) n Natural

abbrev pub note_number : Note → ℕ
note_number n = 3 * letter_number n.literal + modifier_number n.modifier

abbrev pub note_of : ℕ → Note
note_of n = record { literal = letter_of (n / 3); modifier = modifier_of (n % 3) }

-- "pitch class (C 0, D 2, E 4, F 5, G 7, A 9, B 11, plus its alteration, modulo 12)": the semitones from C up to a letter
abbrev pub letter_class : NoteLiteral → ℕ
letter_class C = 0
letter_class D = 2
letter_class E = 4
letter_class F = 5
letter_class G = 7
letter_class A = 9
letter_class B = 11

-- what a modifier adds, going round the twelve: eleven up is one down
abbrev pub modifier_class : RootModifier → ℕ
modifier_class Natural = 0
modifier_class Sharp = 1
modifier_class Flat = 11

-- the pitch class of a note, 0 to 11
abbrev pub pitch_class : Note → ℕ
pitch_class n = (letter_class n.literal + modifier_class n.modifier) % 12

-- the pitch class of the interval i above a root, 0 to 11
abbrev pub member_class : Note → ℕ → ℕ
member_class root i = (pitch_class root + semitones i) % 12

-- "the root, slash bass or none"
abbrev pub OptionalNote : Type 0
OptionalNote = Option Note
