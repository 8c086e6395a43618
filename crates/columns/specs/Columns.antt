-- Numbers in four columns, put one behind another.
use Rattle.std.specs.Prelude.{List, [], ◌∷◌, ◌≡◌, ℕ, ◌/◌, length}
use Rattle.output.specs.Output.{Put, PutNumber}
use Rattle.note.specs.Note.{letter_number}
use Rattle.note.specs.declared.Note.{Note}
use Rattle.std.specs.declared.option.Option.TheVariants.{None, Some}
use Rattle.note.specs.Note.{OptionalNote}
use Rattle.note.specs.declared.RootModifier.TheVariants.{Natural, Sharp, Flat}
use Rattle.note.specs.declared.RootModifier.{RootModifier}

-- one thing was put, and another behind it: each takes and gives a count and a buffer
pub record Then (P Q : ℕ → ℕ → List ℕ → List ℕ → Type 0) (n r : ℕ) (b b' : List ℕ) : Type 0 where
  pub count : ℕ
  pub bytes : List ℕ
  pub first : P n count b bytes
  pub second : Q count r bytes b'

-- numbers were put, in order
abbrev pub PutAll : List ℕ → ℕ → ℕ → List ℕ → List ℕ → Type 0
PutAll [] n r b b' = (r ≡ n) × (b' ≡ b)
PutAll (x ∷ xs) n r b b' = Then (PutNumber x 4) (PutAll xs) n r b b'

-- -1, 0 or 1
abbrev pub PutAlteration : RootModifier → ℕ → ℕ → List ℕ → List ℕ → Type 0
PutAlteration Flat n r b b' = Put (32 ∷ 32 ∷ 45 ∷ 49 ∷ []) n r b b'
PutAlteration Natural n r b b' = PutNumber 0 4 n r b b'
PutAlteration Sharp n r b b' = PutNumber 1 4 n r b b'

-- the letter and the alteration
abbrev pub PutNote : Note → ℕ → ℕ → List ℕ → List ℕ → Type 0
PutNote note n r b b' = Then (PutNumber (letter_number note.literal) 4) (PutAlteration note.modifier) n r b b'

-- -1 and 0 for none
abbrev pub PutNoteOrNone : OptionalNote → ℕ → ℕ → List ℕ → List ℕ → Type 0
PutNoteOrNone None n r b b' = Then (PutAlteration Flat) (PutNumber 0 4) n r b b'
PutNoteOrNone (Some note) n r b b' = PutNote note n r b b'

-- the count of the errors, of which each has four numbers, and the numbers
abbrev pub PutErrors : List ℕ → ℕ → ℕ → List ℕ → List ℕ → Type 0
PutErrors errors n r b b' = Then (PutNumber (length errors / 4) 4) (PutAll errors) n r b b'
