-- No house spelling is longer than 112 bytes: every part stands at most once, and of `dim7` and `m`, and of the three sus, at most one.
-- Assumes nothing.
use mathlib.Core.Bool.{true, false}
use mathlib.Core.List.{List, [], ◌∷◌, ◌++◌}
use mathlib.Core.Path.{◌≡◌, refl, ap}
use Prim.Native.Nat.{ℕ, ◌+◌, ◌≤◌}
use native.Mathlib.Omega.{arith}
use lib.ListN.{length, length-append, take, drop}
use Rattle.chord.specs.Chord.{Four}
use Rattle.intervals.specs.Interval.{Set}
use Rattle.note.specs.declared.Note.{Note}
use Rattle.note.specs.declared.NoteLiteral.TheVariants.{C, D, E, F, G, A, B}
use Rattle.note.specs.declared.NoteLiteral.{NoteLiteral}
use Rattle.std.specs.declared.option.Option.TheVariants.{None, Some}
use Rattle.note.specs.Note.{OptionalNote}
use Rattle.note.specs.declared.RootModifier.TheVariants.{Natural, Sharp, Flat}
use Rattle.note.specs.declared.RootModifier.{RootModifier}
use Rattle.house_parts.specs.House.{kind_in}
use Rattle.house_parts.specs.declared.kind.SusKind.TheVariants.{Plain, Flat2, Second, Sharp4}
use Rattle.house_parts.specs.declared.kind.SusKind.{SusKind}
use Rattle.house_text.specs.Spelling.{house, house_by, letter_text, sign_text, note_text, spell}
use Rattle.house_text.proofs.Piecewise.{Piece, piece, pieces}
use Rattle.house_text.proofs.TextLemma.{Form, plain, minor, diminished, form_of, form_text, head_text, text_of, bass_text, spelled}

-- the length of all pieces together
abbrev total : List Piece → ℕ
total [] = 0
total (piece c t e i f ∷ gs) = length t + total gs

-- pieces that stand are no longer than all
text-length : (gs : List Piece) (r : List ℕ) → length (text_of gs r) ≤ total gs + length r
text-length [] r = omega arith
text-length (piece true t e i f ∷ gs) r = omega (arith, length-append t (text_of gs r), text-length gs r)
text-length (piece false t e i f ∷ gs) r = omega (arith, text-length gs r)

-- one byte
letter-length : (l : NoteLiteral) → length (letter_text l) ≡ 1
letter-length C = refl
letter-length D = refl
letter-length E = refl
letter-length F = refl
letter-length G = refl
letter-length A = refl
letter-length B = refl

-- one byte or none
sign_length : (a : RootModifier) → length (sign_text a) ≤ 1
sign_length Natural = omega arith
sign_length Sharp = omega arith
sign_length Flat = omega arith

-- a letter and a sign
note_length : (n : Note) → length (note_text n) ≤ 2
note_length n = omega (arith, length-append (letter_text n.literal) (sign_text n.modifier), letter-length n.literal, sign_length n.modifier)

-- `dim7` is the longest
form-length : (f : Form) → length (form_text f) ≤ 4
form-length plain = omega arith
form-length minor = omega arith
form-length diminished = omega arith

-- a slash and a note, or nothing
bass-length : (b : OptionalNote) → length (bass_text b) ≤ 3
bass-length None = omega arith
bass-length (Some n) = omega (arith, length-append (47 ∷ note_text n) [], note_length n)

-- of the three sus at most one stands
sus-length : (n : Set) (k : SusKind) (r : List ℕ) → length (text_of (take 3 (drop 3 (pieces n k))) r) ≤ 6 + length r
sus-length n Plain r = omega arith
sus-length n Flat2 r = omega arith
sus-length n Second r = omega arith
sus-length n Sharp4 r = omega arith

-- the parts together
pub length-spelled : (root : Note) (bass : OptionalNote) (n : Set) (k : SusKind) → length (spell root bass n k) ≤ 112
length-spelled root bass n k =
    let rest : List ℕ = text_of (drop 6 (pieces n k)) (bass_text bass) in
    let some : List ℕ = text_of (take 3 (drop 3 (pieces n k))) rest in
    let s : length (spell root bass n k) ≡ length (head_text root.literal root.modifier (form_of n) ++ text_of (pieces n k) (bass_text bass)) = ap length (spelled root bass n k) in
    let e : length (text_of (pieces n k) (bass_text bass)) ≤ 8 + length some = text-length (take 3 (pieces n k)) some in
    let f : length some ≤ 6 + length rest = sus-length n k rest in
    let g : length rest ≤ 89 + length (bass_text bass) = text-length (drop 6 (pieces n k)) (bass_text bass) in
    omega (
      arith,
      length-append (head_text root.literal root.modifier (form_of n)) (text_of (pieces n k) (bass_text bass)),
      length-append (note_text root) (form_text (form_of n)),
      note_length root,
      form-length (form_of n),
      bass-length bass,
      s,
      e,
      f,
      g,
    )

-- and of every four
by-root : (r : OptionalNote) (f : Four) → length (house_by r f) ≤ 112
by-root (Some r) f = length-spelled r f.bass f.normalized (kind_in f.normalized f.display)
by-root None f = omega arith

pub house-length : (f : Four) → length (house f) ≤ 112
house-length f = by-root f.root f
