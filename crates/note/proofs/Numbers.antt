-- Letters, modifiers and notes are found again from their numbers.
-- Assumes nothing.
use mathlib.Core.Path.{◌≡◌, refl, ap, ◌∙◌}
use Prim.Native.Nat.{ℕ, ◌+◌, ◌*◌, ◌/◌, ◌%◌, ◌<◌}
use native.Mathlib.Omega.{arith}
use Rattle.note.specs.Note.{letter_number, letter_of, modifier_number, modifier_of, note_number, note_of}
use Rattle.note.specs.declared.Note.{Note}
use Rattle.note.specs.declared.NoteLiteral.TheVariants.{C, D, E, F, G, A, B}
use Rattle.note.specs.declared.NoteLiteral.{NoteLiteral}
use Rattle.note.specs.declared.RootModifier.TheVariants.{Natural, Sharp, Flat}
use Rattle.note.specs.declared.RootModifier.{RootModifier}

letter-back : (l : NoteLiteral) → letter_of (letter_number l) ≡ l
letter-back C = refl
letter-back D = refl
letter-back E = refl
letter-back F = refl
letter-back G = refl
letter-back A = refl
letter-back B = refl

-- a note is found again from its number
pub letter-low : (l : NoteLiteral) → letter_number l < 7
letter-low C = omega arith
letter-low D = omega arith
letter-low E = omega arith
letter-low F = omega arith
letter-low G = omega arith
letter-low A = omega arith
letter-low B = omega arith

pub modifier_low : (m : RootModifier) → modifier_number m < 3
modifier_low Natural = omega arith
modifier_low Sharp = omega arith
modifier_low Flat = omega arith

modifier_number-back : (m : RootModifier) → modifier_of (modifier_number m) ≡ m
modifier_number-back Natural = refl
modifier_number-back Sharp = refl
modifier_number-back Flat = refl

pub note_back : (n : Note) → note_of (note_number n) ≡ n
note_back n =
    let l = letter_number n.literal in
    let m = modifier_number n.modifier in
    let h : m < 3 = modifier_low n.modifier in
    let q : (3 * l + m) / 3 ≡ l = omega arith in
    let r : (3 * l + m) % 3 ≡ m = omega arith in
    let a : letter_of ((3 * l + m) / 3) ≡ n.literal = ap letter_of q ∙ letter-back n.literal in
    let b : modifier_of ((3 * l + m) % 3) ≡ n.modifier = ap modifier_of r ∙ modifier_number-back n.modifier in
    λ i. record { literal = a i; modifier = b i }

-- what the number of a note says: it is small, and the note is found again from it
pub numbered : (n : Note) (k : ℕ) → k ≡ note_number n → (k ≡ note_number n) × (note_of k ≡ n) × (k < 21)
numbered n k e = (e, ap note_of e ∙ note_back n, omega (arith, e, letter-low n.literal, modifier_low n.modifier))
