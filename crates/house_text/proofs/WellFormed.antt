-- Every house spelling is well-formed UTF-8, and so is every blank text: all bytes are below 128, and each such byte is a character.
-- Assumes nothing.
use mathlib.Core.Bool.{Bool, true, false, ◌&&◌, true≢false}
use mathlib.Core.List.{List, [], ◌∷◌, ◌++◌}
use mathlib.Core.Path.{◌≡◌, refl, sym, ap, ◌∙◌}
use Prim.Native.Nat.{ℕ, ◌-◌, ◌<◌}
use native.Mathlib.Omega.{arith}
use lib.Dec.{eqb, ltb}
use lib.ListN.{length}
use borrow.Author.Tests.{eqb-true, lt-ltb, ltb-true}
use Rattle.intervals.specs.Interval.{Set}
use Rattle.note.specs.declared.Note.{Note}
use Rattle.note.specs.declared.NoteLiteral.TheVariants.{C, D, E, F, G, A, B}
use Rattle.note.specs.declared.NoteLiteral.{NoteLiteral}
use Rattle.std.specs.declared.option.Option.TheVariants.{None, Some}
use Rattle.note.specs.Note.{OptionalNote}
use Rattle.note.specs.declared.RootModifier.TheVariants.{Natural, Sharp, Flat}
use Rattle.note.specs.declared.RootModifier.{RootModifier}
use Rattle.house_parts.specs.declared.kind.SusKind.{SusKind}
use Rattle.reader.specs.Reader.{is_blank}
use Rattle.utf8.proofs.Laws.{char_of-encode, low_scalar}
use Rattle.utf8.specs.Utf8.{after_char, char_of, encode, well_formed, well_from}
use Rattle.utf8.specs.declared.Found.TheVariants.{Char}
use Rattle.utf8.specs.declared.Found.{Found}
use Rattle.house_text.specs.Spelling.{letter_text, sign_text, note_text, spell}
use Rattle.house_text.proofs.Piecewise.{Piece, piece, pieces}
use Rattle.house_text.proofs.TextLemma.{Form, plain, minor, diminished, form_of, form_text, head_text, text_of, bass_text, spelled}

-- are all bytes below 128?
abbrev low : List ℕ → Bool
low [] = true
low (b ∷ s) = ltb b 128 && low s

-- the first of two that hold
and_left : (a b : Bool) → a && b ≡ true → a ≡ true
and_left true b h = refl
and_left false b h = h

-- the second of two that hold
and_right : (a b : Bool) → a && b ≡ true → b ≡ true
and_right true b h = h
and_right false b h = absurd (true≢false (sym h))

-- a byte below 128 is a character
low_char : (b : ℕ) (s : List ℕ) → b < 128 → char_of (b ∷ s) ≡ Char b 1
unfolding encode
low_char b s h =
    let e : encode b ≡ b ∷ [] = rw (lt-ltb b 128 h) in
    ap (λ (l : List ℕ). char_of (l ++ s)) (sym e) ∙ char_of-encode b s (low_scalar b (omega arith)) ∙ ap (λ (l : List ℕ). Char b (length l)) e

-- such bytes are well formed
low_well : (s : List ℕ) → low s ≡ true → well_formed s ≡ true
unfolding well_from
low_well [] h = refl
low_well (b ∷ s) h =
    ap (λ (c : Found). after_char c (λ n. well_from (n - 1) s)) (low_char b s (ltb-true b 128 (and_left (ltb b 128) (low s) h)))
    ∙ low_well s (and_right (ltb b 128) (low s) h)

-- a blank text has them
blank-low : (t : List ℕ) → is_blank t ≡ true → low t ≡ true
unfolding is_blank
blank-low [] b = refl
blank-low (x ∷ t) b =
    let e : x ≡ 0x20 = eqb-true x 0x20 (and_left (eqb x 0x20) (is_blank t) b) in
    ap (λ (c : Bool). c && low t) (lt-ltb x 128 (omega (arith, e))) ∙ blank-low t (and_right (eqb x 0x20) (is_blank t) b)

pub blank_utf8 : (t : List ℕ) → is_blank t ≡ true → well_formed t ≡ true
blank_utf8 t b = low_well t (blank-low t b)

-- one such text after another
low_in_two : (a b : List ℕ) → low a ≡ true → low b ≡ true → low (a ++ b) ≡ true
low_in_two [] b h g = g
low_in_two (x ∷ a) b h g =
    ap (λ (c : Bool). c && low (a ++ b)) (and_left (ltb x 128) (low a) h) ∙ low_in_two a b (and_right (ltb x 128) (low a) h) g

-- letters are below 128
low-letter : (l : NoteLiteral) → low (letter_text l) ≡ true
low-letter C = refl
low-letter D = refl
low-letter E = refl
low-letter F = refl
low-letter G = refl
low-letter A = refl
low-letter B = refl

-- signs are
low_sign : (a : RootModifier) → low (sign_text a) ≡ true
low_sign Natural = refl
low_sign Sharp = refl
low_sign Flat = refl

-- a letter and a sign
low_note : (n : Note) → low (note_text n) ≡ true
low_note n = low_in_two (letter_text n.literal) (sign_text n.modifier) (low-letter n.literal) (low_sign n.modifier)

-- `dim7` and `m` are
low-form : (f : Form) → low (form_text f) ≡ true
low-form plain = refl
low-form minor = refl
low-form diminished = refl

-- a slash and a note are
low-bass : (b : OptionalNote) → low (bass_text b) ≡ true
low-bass None = refl
low-bass (Some n) = low_in_two (note_text n) [] (low_note n) refl

-- have all pieces such texts?
abbrev lows : List Piece → Bool
lows [] = true
lows (piece c t e i f ∷ gs) = low t && lows gs

-- pieces that stand, and the rest
low_pieces : (gs : List Piece) (r : List ℕ) → lows gs ≡ true → low r ≡ true → low (text_of gs r) ≡ true
low_pieces [] r h g = g
low_pieces (piece true t e i f ∷ gs) r h g = low_in_two t (text_of gs r) (and_left (low t) (lows gs) h) (low_pieces gs r (and_right (low t) (lows gs) h) g)
low_pieces (piece false t e i f ∷ gs) r h g = low_pieces gs r (and_right (low t) (lows gs) h) g

-- head, pieces and bass
pub spelled_utf8 : (root : Note) (bass : OptionalNote) (n : Set) (k : SusKind) → well_formed (spell root bass n k) ≡ true
spelled_utf8 root bass n k =
    ap well_formed (spelled root bass n k)
    ∙ low_well (head_text root.literal root.modifier (form_of n) ++ text_of (pieces n k) (bass_text bass))
    (low_in_two (head_text root.literal root.modifier (form_of n)) (text_of (pieces n k) (bass_text bass))
    (low_in_two (note_text root) (form_text (form_of n)) (low_note root) (low-form (form_of n)))
    (low_pieces (pieces n k) (bass_text bass) refl (low-bass bass)))
